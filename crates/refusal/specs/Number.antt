-- The numbers of the refusals: the first two columns of the table in docs/RULES.md.
use Rattle.std.specs.Prelude.{ℕ}
use Rattle.refusal.specs.declared.Refusal.{Refusal}
use Rattle.refusal.specs.declared.Refusal.TheVariants.{InvalidInput, InvalidWeight, InsufficientNonZero, Overflow, ProbabilityTooSmall, ProbabilityTooLarge, BadCount, BadIndex, BadTarget, Full, Empty, OutOfWords, Damaged, BadLength, TooManyTrials, NeedsBtpe, NeedsPoisson}

abbrev pub number : Refusal → ℕ
number InvalidInput = 1
number InvalidWeight = 2
number InsufficientNonZero = 3
number Overflow = 4
number ProbabilityTooSmall = 5
number ProbabilityTooLarge = 6
number BadCount = 7
number BadIndex = 8
number BadTarget = 9
number Full = 10
number Empty = 11
number OutOfWords = 12
number Damaged = 13
number BadLength = 14
number TooManyTrials = 15
number NeedsBtpe = 16
number NeedsPoisson = 17
