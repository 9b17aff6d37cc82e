-- What the slots of a table lend to each other.
use Rattle.std.specs.Prelude.{ℕ, ◌+◌, ◌-◌, Bool, true, cond, not, ◌&&◌, ◌||◌, ◌≡◌, List, ltb, leb, eqb, length, get_or}
use Rattle.counting.specs.Sum.{exceeds_u64}
use Rattle.counting.specs.Below.{sum_below, some_below, list_below}

-- slot j lends S - odds j to its link, where odds j is below S
abbrev pub lends : List ℕ → List ℕ → ℕ → ℕ → ℕ → ℕ
lends odds links S i j = cond (ltb (get_or odds j 0) S && eqb (get_or links j 0) i) (S - get_or odds j 0) 0

-- what the slots below m lend to i
unfoldable pub lent_below : List ℕ → List ℕ → ℕ → ℕ → ℕ → ℕ
lent_below odds links S m i = sum_below m (lends odds links S i)

-- what all slots do
abbrev pub lent : List ℕ → List ℕ → ℕ → ℕ → ℕ
lent odds links S i = lent_below odds links S (length odds) i

-- slot j is to lend, and its link is n or more
abbrev pub far : List ℕ → List ℕ → ℕ → ℕ → Bool
far odds links S j = ltb (get_or odds j 0) S && leb (length odds) (get_or links j 0)

-- some slot is so, or a cell that began with some number would exceed u64
abbrev pub fails : List ℕ → List ℕ → ℕ → (ℕ → ℕ) → Bool
fails odds links S begun =
    some_below (length odds) (far odds links S) || some_below (length odds) (λ i. exceeds_u64 (begun i + lent odds links S i))

-- what `lend` answers, and leaves where that is yes
pub record Lent (odds links : List ℕ) (S : ℕ) (found : List ℕ) (r : Bool) (after : List ℕ) : Type 0 where
  pub answer : r ≡ not (fails odds links S (λ i. get_or found i 0))
  pub cells : r ≡ true → after ≡ list_below (length odds) (λ i. get_or found i 0 + lent odds links S i)
