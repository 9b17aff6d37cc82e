-- The NaN has the bits of the one NaN, and any other float its own.
use Rattle.std.proofs.Common.{sym, ◌∙◌}
use Rattle.words.proofs.Value.{no_nan, bits_of_nan}
use Rattle.words.proofs.floats.bits_of.Goals as goal

pub returns-then-is_nan : goal.returns-then-is_nan
returns-then-is_nan c = bits_of_nan _ (sym c.is_nan.ensures.value ∙ c.if-is_nan.true)

pub float_to_bits-result : goal.float_to_bits-result
float_to_bits-result c = no_nan _ (sym c.is_nan.ensures.value ∙ c.if-is_nan.false)
