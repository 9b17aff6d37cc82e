-- The walk by target: the slot that a target draws.
use Rattle.std.specs.Prelude.{ℕ, zero, suc, ◌+◌, ◌*◌, ◌-◌, Bool, cond, ◌≡◌, List, [], ◌∷◌, ltb}
use Rattle.refusal.specs.Outcome.{Outcome, gave, in_order}
use Rattle.refusal.specs.Answers.{tells}
use Rattle.weighted_tree.specs.Store.{Store, cell_at}
use Rattle.weighted_tree.specs.Tests.{bad_count, no_total, bad_target, damaged}
use Rattle.std.specs.Prelude.{Result}
use Rattle.refusal.specs.declared.Refusal.{Refusal}

-- the cells that a walk visits from cell i with a target, at most f of them: it goes left if the target is below the left subtotal, else
-- takes that off and goes right by the same test, else stops
unfoldable pub visited : Store → ℕ → ℕ → ℕ → ℕ → List ℕ
visited s n zero i t = []
visited s n (suc f) i t =
    let left = cell_at s n (2 * i + 1) in
    let right = cell_at s n (2 * i + 2) in
    let go_left = visited s n f (2 * i + 1) t in
    let go_right = visited s n f (2 * i + 2) (t - left) in
    i ∷ cond (ltb t left) go_left (cond (ltb (t - left) right) go_right [])

-- the walk from cell 0. Each cell is above the last and below the count, so there are at most n
abbrev pub walk_path : Store → ℕ → ℕ → List ℕ
walk_path s n t = visited s n n 0 t

-- the last cell of a path
abbrev pub last_of : ℕ → List ℕ → ℕ
last_of i [] = i
last_of i (j ∷ path) = last_of j path

-- where a walk ends: 13 on the cells visited, else at the last of them
unfoldable pub walk_end : Store → ℕ → List ℕ → Outcome ℕ
walk_end s n path = in_order ((13, damaged s n path) ∷ []) (gave (last_of 0 path))

-- walk by target 7, 3, 9, 13
abbrev pub refusals : Store → ℕ → ℕ → List (ℕ × Bool)
refusals s n t =
    (7, bad_count s n)
    ∷ (3, no_total s n)
    ∷ (9, bad_target s n t)
    ∷ (13, damaged s n (walk_path s n t))
    ∷ []

-- the last cell visited
unfoldable pub rule : Store → ℕ → ℕ → Outcome ℕ
rule s n t = in_order (refusals s n t) (gave (last_of 0 (walk_path s n t)))

pub record Promise (s : Store) (n t : ℕ) (r : Result ℕ Refusal) : Type 0 where
  pub answer : tells r ≡ rule s n t
