-- pop: what it answers, and what it leaves.
use Rattle.std.specs.Prelude.{ℕ, ◌-◌, Bool, ◌≡◌, List, [], ◌∷◌, set}
use Rattle.refusal.specs.Outcome.{Outcome, gave, in_order, leaves}
use Rattle.weighted_tree.specs.Store.{Store, weight_at}
use Rattle.weighted_tree.specs.Path.{parents, path_of, change_all}
use Rattle.weighted_tree.specs.Tests.{bad_count, empty, damaged}
use Rattle.refusal.specs.Answers.{tells}
use Rattle.std.specs.Prelude.{Result}
use Rattle.refusal.specs.declared.Refusal.{Refusal}

-- pop 7, 11, 13: on the path of cell n - 1
abbrev pub refusals : Store → ℕ → List (ℕ × Bool)
refusals s n =
    (7, bad_count s n)
    ∷ (11, empty n)
    ∷ (13, damaged s n (path_of (n - 1)))
    ∷ []

-- the weight of the last slot, and the count without it
unfoldable pub rule : Store → ℕ → Outcome (ℕ × ℕ)
rule s n = in_order (refusals s n) (gave (weight_at s n (n - 1), n - 1))

-- the weight is taken from each parent, and its cell is 0
unfoldable pub changed : Store → ℕ → Store
changed s n = set (change_all s 0 (weight_at s n (n - 1)) (parents (n - 1))) (n - 1) 0

pub record Promise (s : Store) (n : ℕ) (r : Result (ℕ × ℕ) Refusal) (after : Store) : Type 0 where
  pub answer : tells r ≡ rule s n
  pub store : after ≡ leaves (rule s n) (changed s n) s
