-- The pattern is no NaN's, and less 1 it is the word's top bits over 2^52.
use Rattle.std.proofs.Common.{arith}
use Rattle.words.proofs.Value.{no_nan_bits}
use Rattle.words.proofs.FromBits.{unit_made}
use Rattle.words.proofs.floats.unit.Goals as goal

pub float_from_bits-result : goal.float_from_bits-result
float_from_bits-result c = no_nan_bits _ (omega arith)

pub returns : goal.returns
returns c = unit_made c.args.word (omega arith)
