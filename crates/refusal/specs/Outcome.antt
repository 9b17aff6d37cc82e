-- What a call comes to, whatever type its answer has: a value that it gives, or the number of a refusal. And the order of a call's refusals.
use Rattle.std.specs.Prelude.{ℕ, Bool, true, false, cond, ◌≡◌, List, [], ◌∷◌, eqb}

pub data Outcome (A : Type 0) : Type 0 where
  gave : A → Outcome A
  refused : ℕ → Outcome A

-- a call's refusals in their order, each number with its test: the first whose test holds, and where none does, what the call else comes to
abbrev pub in_order : {A : Type 0} → List (ℕ × Bool) → Outcome A → Outcome A
in_order [] o = o
in_order ((k, holds) ∷ later) o = cond holds (refused k) (in_order later o)

-- what a call leaves of something that it changes: what it found there if it is refused
abbrev pub leaves : {A B : Type 0} → Outcome A → B → B → B
leaves (gave v) changed found = changed
leaves (refused k) changed found = found

-- the words that a draw consumes: those that it used, and none where it is refused
abbrev pub consumed : {A : Type 0} → Outcome A → ℕ → ℕ
consumed o used = leaves o used 0

-- the test of number k holds, and no test before it does
abbrev pub Exactly : ℕ → List (ℕ × Bool) → Type 0
Exactly k [] = ⊥
Exactly k ((j, holds) ∷ later) = cond (eqb j k) (holds ≡ true) ((holds ≡ false) × Exactly k later)

-- no test holds
abbrev pub None : List (ℕ × Bool) → Type 0
None [] = Unit {0}
None ((j, holds) ∷ later) = (holds ≡ false) × None later
