-- push: what it answers, and what it leaves.
use Rattle.std.specs.Prelude.{ℕ, ◌+◌, Bool, ◌≡◌, List, [], ◌∷◌, set}
use Rattle.counting.specs.Sum.{exceeds_u64}
use Rattle.refusal.specs.Outcome.{Outcome, gave, in_order, leaves}
use Rattle.weighted_tree.specs.Store.{Store, total}
use Rattle.weighted_tree.specs.Path.{parents, change_all}
use Rattle.weighted_tree.specs.Tests.{bad_count, full, damaged}
use Rattle.refusal.specs.Answers.{tells}
use Rattle.std.specs.Prelude.{Result}
use Rattle.refusal.specs.declared.Refusal.{Refusal}

-- push 7, 10, 13, 4: on the parents of cell n
abbrev pub refusals : Store → ℕ → ℕ → List (ℕ × Bool)
refusals s n w =
    (7, bad_count s n)
    ∷ (10, full s n)
    ∷ (13, damaged s n (parents n))
    ∷ (4, exceeds_u64 (total s n + w))
    ∷ []

-- the new count
unfoldable pub rule : Store → ℕ → ℕ → Outcome ℕ
rule s n w = in_order (refusals s n w) (gave (n + 1))

-- cell n is the weight, which is added to each parent
unfoldable pub changed : Store → ℕ → ℕ → Store
changed s n w = change_all (set s n w) w 0 (parents n)

pub record Promise (s : Store) (n w : ℕ) (r : Result ℕ Refusal) (after : Store) : Type 0 where
  pub answer : tells r ≡ rule s n w
  pub store : after ≡ leaves (rule s n w) (changed s n w) s
