-- Bits above the infinity's are a NaN's, and there is one NaN.
use Rattle.std.proofs.Common.{sym, ◌∙◌}
use Rattle.words.proofs.Value.{no_nan_bits, nan_of_bits, the_nan}
use Rattle.words.proofs.floats.float_of.Goals as goal

pub returns-then-bits-gt-INFINITY : goal.returns-then-bits-gt-INFINITY
returns-then-bits-gt-INFINITY c = the_nan ∙ sym (nan_of_bits c.args.bits c.if-bits-gt-INFINITY.true)

pub float_from_bits-result : goal.float_from_bits-result
float_from_bits-result c = no_nan_bits _ c.if-bits-gt-INFINITY.false
