-- get: the weight of a slot.
use Rattle.std.specs.Prelude.{ℕ, Bool, ◌≡◌, List, [], ◌∷◌}
use Rattle.refusal.specs.Outcome.{Outcome, gave, in_order}
use Rattle.weighted_tree.specs.Store.{Store, weight_at}
use Rattle.weighted_tree.specs.Tests.{bad_count, bad_index, damaged}
use Rattle.refusal.specs.Answers.{tells}
use Rattle.std.specs.Prelude.{Result}
use Rattle.refusal.specs.declared.Refusal.{Refusal}

-- get 7, 8, 13: on the one cell
abbrev pub refusals : Store → ℕ → ℕ → List (ℕ × Bool)
refusals s n i =
    (7, bad_count s n)
    ∷ (8, bad_index n i)
    ∷ (13, damaged s n (i ∷ []))
    ∷ []

-- the weight
unfoldable pub rule : Store → ℕ → ℕ → Outcome ℕ
rule s n i = in_order (refusals s n i) (gave (weight_at s n i))

pub record Promise (s : Store) (n i : ℕ) (r : Result ℕ Refusal) : Type 0 where
  pub answer : tells r ≡ rule s n i
