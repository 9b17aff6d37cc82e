-- update: what it answers, and what it leaves.
use Rattle.std.specs.Prelude.{ℕ, ◌+◌, ◌-◌, Bool, ◌≡◌, List, [], ◌∷◌}
use Rattle.counting.specs.Sum.{exceeds_u64}
use Rattle.refusal.specs.Outcome.{Outcome, gave, in_order, leaves}
use Rattle.weighted_tree.specs.Store.{Store, total, weight_at}
use Rattle.weighted_tree.specs.Path.{path_of, change_all}
use Rattle.weighted_tree.specs.Tests.{bad_count, bad_index, damaged}
use Rattle.refusal.specs.Answers.{tells}
use Rattle.std.specs.Prelude.{Result}
use Rattle.refusal.specs.declared.Refusal.{Refusal}

-- the difference, up and down: one of the two is 0
abbrev pub rise : Store → ℕ → ℕ → ℕ → ℕ
rise s n i w = w - weight_at s n i

abbrev pub fall : Store → ℕ → ℕ → ℕ → ℕ
fall s n i w = weight_at s n i - w

-- update 7, 8, 13, 4: on the path of cell i
abbrev pub refusals : Store → ℕ → ℕ → ℕ → List (ℕ × Bool)
refusals s n i w =
    (7, bad_count s n)
    ∷ (8, bad_index n i)
    ∷ (13, damaged s n (path_of i))
    ∷ (4, exceeds_u64 (total s n + rise s n i w))
    ∷ []

-- the count as handed in
unfoldable pub rule : Store → ℕ → ℕ → ℕ → Outcome ℕ
rule s n i w = in_order (refusals s n i w) (gave n)

-- the cell and each parent change by the difference
unfoldable pub changed : Store → ℕ → ℕ → ℕ → Store
changed s n i w = change_all s (rise s n i w) (fall s n i w) (path_of i)

pub record Promise (s : Store) (n i w : ℕ) (r : Result ℕ Refusal) (after : Store) : Type 0 where
  pub answer : tells r ≡ rule s n i w
  pub store : after ≡ leaves (rule s n i w) (changed s n i w) s
