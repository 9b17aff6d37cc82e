-- weights: the weights that a table shows.
use Rattle.std.specs.Prelude.{ℕ, ◌+◌, ◌/◌, Bool, cond, ◌||◌, ◌≡◌, List, [], ◌∷◌, eqb, length, get_or, replicate}
use Rattle.counting.specs.Below.{list_below}
use Rattle.refusal.specs.Outcome.{Outcome, gave, refused, in_order}
use Rattle.refusal.specs.Answers.{tells}
use Rattle.weighted_alias.specs.Tests.{no_slots, no_total, too_many, bad_length}
use Rattle.alias_checker.specs.Shares.{lent, fails}
use Rattle.std.specs.Prelude.{Result, ⊤}
use Rattle.refusal.specs.declared.Refusal.{Refusal}

-- odds i, and every S - odds j with odds j below S and link j = i
abbrev pub share : List ℕ → List ℕ → ℕ → ℕ → ℕ
share odds links S i = get_or odds i 0 + lent odds links S i

-- 13: such a link is n or more, or a sum exceeds u64
unfoldable pub damaged : List ℕ → List ℕ → ℕ → Bool
damaged odds links S = fails odds links S (λ i. get_or odds i 0)

-- weights 1, 10, 14, 3, 13
abbrev pub refusals : List ℕ → List ℕ → ℕ → ℕ → List (ℕ × Bool)
refusals odds links S output =
    (1, no_slots (length odds))
    ∷ (10, too_many (length odds))
    ∷ (14, bad_length (length odds) (length links) || bad_length (length odds) output)
    ∷ (3, no_total S)
    ∷ (13, damaged odds links S)
    ∷ []

-- n, where `output` is a length
unfoldable pub rule : List ℕ → List ℕ → ℕ → ℕ → Outcome ℕ
rule odds links S output = in_order (refusals odds links S output) (gave (length odds))

-- divided by n, the remainder dropped
unfoldable pub shown : List ℕ → List ℕ → ℕ → List ℕ
shown odds links S = list_below (length odds) (λ i. share odds links S i / length odds)

-- the output: where the table is damaged n zeros, else a refusal leaves it as it was
abbrev pub left : Outcome ℕ → List ℕ → List ℕ → List ℕ → List ℕ
left (gave n) written zeros found = written
left (refused k) written zeros found = cond (eqb k 13) zeros found

pub record Promise (odds links : List ℕ) (S : ℕ) (output : List ℕ) (r : Result ℕ Refusal) (after : List ℕ) : Type 0 where
  pub answer : tells r ≡ rule odds links S (length output)
  pub output_is : after ≡ left (rule odds links S (length output)) (shown odds links S) (replicate (length odds) 0) output

-- ---- what the code's part leaves, where nothing but damage is refused
pub record Restored (odds links : List ℕ) (S : ℕ) (r : Result ⊤ Refusal) (after : List ℕ) : Type 0 where
  pub answer : tells r ≡ in_order ((13, damaged odds links S) ∷ []) (gave tt)
  pub output_is : after ≡ cond (damaged odds links S) (replicate (length odds) 0) (shown odds links S)
