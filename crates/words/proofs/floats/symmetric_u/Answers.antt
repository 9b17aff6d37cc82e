-- The pattern is no NaN's, and less 3 it is what the word's top bits are off 2^51, over 2^51.
use Rattle.std.proofs.Common.{arith}
use Rattle.words.proofs.Value.{no_nan_bits}
use Rattle.words.proofs.FromBits.{symmetric_u_made}
use Rattle.words.proofs.floats.symmetric_u.Goals as goal

pub float_from_bits-result : goal.float_from_bits-result
float_from_bits-result c = no_nan_bits _ (omega arith)

pub returns : goal.returns
returns c = symmetric_u_made c.args.word (omega arith)
