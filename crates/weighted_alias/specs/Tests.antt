-- The tests of the refusals, by the numbers and in the words of the table in docs/RULES.md.
use Rattle.std.specs.Prelude.{ℕ, ◌/◌, Bool, not, ◌≡◌, List, [], ◌∷◌, ltb, eqb, length, get_or}
use Rattle.counting.specs.Below.{some_below}
use Rattle.refusal.specs.Outcome.{gave, in_order}
use Rattle.refusal.specs.Answers.{tells}
use Rattle.std.specs.Prelude.{Result}
use Rattle.refusal.specs.declared.Refusal.{Refusal}

-- 1: n = 0
abbrev pub no_slots : ℕ → Bool
no_slots n = eqb n 0

-- 2: a weight exceeds 18446744073709551615 / n, rounded down
unfoldable pub too_heavy : List ℕ → Bool
too_heavy ws = some_below (length ws) (λ i. ltb (18446744073709551615 / length ws) (get_or ws i 0))

-- 3: the total is 0
abbrev pub no_total : ℕ → Bool
no_total S = eqb S 0

-- 10: n above 4,096
abbrev pub too_many : ℕ → Bool
too_many n = ltb 4096 n

-- 14: a lent length isn't n
abbrev pub bad_length : ℕ → ℕ → Bool
bad_length n lent = not (eqb lent n)

-- what every alias call refuses first: 1, 10, 14
abbrev pub slot_refusals : ℕ → Bool → List (ℕ × Bool)
slot_refusals n bad_lengths =
    (1, no_slots n)
    ∷ (10, too_many n)
    ∷ (14, bad_lengths)
    ∷ []

-- the number of slots
pub record Slots (n : ℕ) (bad_lengths : Bool) (r : Result ℕ Refusal) : Type 0 where
  pub answer : tells r ≡ in_order (slot_refusals n bad_lengths) (gave n)
