-- The answer of a round as numbers: the floats by their bits. And the numbers in five cells.
use Rattle.std.specs.Prelude.{ℕ, List, [], ◌∷◌}
use Rattle.std.specs.Float.{binary64}
use Rattle.std.specs.Float.Ieee.{to_bits}
use Rattle.refusal.specs.Outcome.{Outcome, gave, refused}
use Rattle.refusal.specs.Answers.{tells}
use Rattle.ziggurat.specs.declared.Rounded.{Rounded}
use Rattle.ziggurat.specs.declared.Rounded.TheVariants.{Sample, Tail, Wedge}
use Rattle.ziggurat.specs.declared.Rounding.{Rounding}
use Rattle.ziggurat.specs.declared.RoundNumbers.{RoundNumbers}

-- 1 for a sample, 2 for a tail, 3 for a wedge, with the bits of their floats; beside them the words
abbrev pub in_numbers : Outcome Rounded → ℕ → RoundNumbers
in_numbers (gave (Sample x)) words = record { number = 0; kind = 1; first = to_bits binary64 x; second = 0; words = words }
in_numbers (gave (Tail u)) words = record { number = 0; kind = 2; first = to_bits binary64 u; second = 0; words = words }
in_numbers (gave (Wedge x height)) words =
    record { number = 0; kind = 3; first = to_bits binary64 x; second = to_bits binary64 height; words = words }
in_numbers (refused k) words = record { number = k; kind = 0; first = 0; second = 0; words = words }

abbrev pub round_numbers : Rounding → RoundNumbers
round_numbers r = in_numbers (tells r.outcome) r.words

abbrev pub five : RoundNumbers → List ℕ
five t = t.number ∷ t.kind ∷ t.first ∷ t.second ∷ t.words ∷ []
