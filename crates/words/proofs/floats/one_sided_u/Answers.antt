-- The pattern is no NaN's, and less the float below 1 it is an odd number over 2^53.
use Rattle.std.proofs.Common.{arith}
use Rattle.words.proofs.Value.{no_nan_bits}
use Rattle.words.proofs.FromBits.{one_sided_u_made}
use Rattle.words.proofs.floats.one_sided_u.Goals as goal

pub float_from_bits-result : goal.float_from_bits-result
float_from_bits-result c = no_nan_bits _ (omega arith)

pub returns : goal.returns
returns c = one_sided_u_made c.args.word (omega arith)
