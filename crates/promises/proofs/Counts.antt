-- In a sound tree each slot answers exactly as many targets below the total as its weight: the targets of a cell are first those of its left
-- child, then those of its right child, and then its own. So every target below the total is answered, and the total is the sum of the weights.
-- By going down from cell 0. Assumes nothing.
use Prim.Native.Nat.{ℕ, zero, suc, ◌+◌, ◌*◌, ◌-◌, ◌/◌, ◌≤◌, ◌<◌}
use native.Mathlib.Omega.{arith}
use native.Mathlib.Nat.{mul-one, mul-zero}
use mathlib.Core.Bool.{true, cond}
use mathlib.Core.Path.{◌≡◌, refl, sym, ap, ◌∙◌}
use mathlib.Core.List.{List}
use borrow.Author.Tests.{lt-ltb, le-ltb, lt-leb, ne_eqb, leb-true}
use lib.Dec.{eqb, ltb}
use lib.ListN.{get_or}
use Rattle.counting.specs.Sum.{sum_of}
use Rattle.counting.specs.Below.{sum_below, how_many}
use Rattle.counting.proofs.Below.{sum_same, sum_parts, sum_each, sum_list, many_sorted}
use Rattle.refusal.specs.Outcome.{gave}
use Rattle.weighted_tree.specs.Store.{Store, total, cell_at, children_at, sound_at, weight_at}
use Rattle.weighted_tree.specs.Tests.{damaged}
use Rattle.weighted_tree.specs.Walk.{visited, walk_path, last_of, rule}
use Rattle.promises.specs.Tree.{Holds, answers}
use Rattle.promises.proofs.Hits.{hit, hit_children}
use Rattle.promises.proofs.Keeps.{all_sound}

-- ---- v for each time that j stands among cell i and the cells under it, down to f levels
under : ℕ → ℕ → ℕ → ℕ → ℕ
under v zero i j = 0
under v (suc f) i j = hit v j i + (under v f (2 * i + 1) j + under v f (2 * i + 2) j)

-- a step down is a step up
under_up : (v f i j : ℕ) → under v (suc f) i (suc j) ≡ hit v (suc j) i + under v f i (j / 2)
unfolding under
under_up v zero i j = refl
under_up v (suc f) i j = omega (arith, under_up v f (2 * i + 1) j, under_up v f (2 * i + 2) j, hit_children v i j)

under_none : (v f i : ℕ) → 0 < i → under v f i 0 ≡ 0
unfolding under hit
under_none v zero i h = refl
under_none v (suc f) i h = grind (arith, under_none v f (2 * i + 1), under_none v f (2 * i + 2))

-- each of the first f cells stands under cell 0 once
under_root : (v f j : ℕ) → j < f → under v f 0 j ≡ v
unfolding under hit
under_root v zero j h = absurd (omega arith)
under_root v (suc f) zero h = omega (arith, under_none v f 1 (omega arith), under_none v f 2 (omega arith))
under_root v (suc f) (suc j) h = grind (arith, under_up v f 0 j, under_root v f (j / 2))

-- ---- the walk of a sound tree, from cell i with f cells to go
module _ (s : Store) (n : ℕ) (sound : (i : ℕ) → sound_at s n i ≡ true) where
  abbrev left : ℕ → ℕ
  left i = cell_at s n (2 * i + 1)

  abbrev right : ℕ → ℕ
  right i = cell_at s n (2 * i + 2)

  abbrev ends : ℕ → ℕ → ℕ → ℕ → ℕ
  ends d f i t = last_of d (visited s n f i t)

  parts : (i : ℕ) → cell_at s n i ≡ left i + (right i + weight_at s n i)
  unfolding weight_at sound_at children_at
  parts i = omega (arith, leb-true (left i + right i) (cell_at s n i) (sound i))

  beyond : (i : ℕ) → n ≤ i → cell_at s n i ≡ 0
  unfolding cell_at
  beyond i h = rw (le-ltb i n h)

  to_left : (d f i t : ℕ) → t < left i → ends d (suc f) i t ≡ ends i f (2 * i + 1) t
  unfolding visited
  to_left d f i t h = grind arith

  to_right : (d f i t : ℕ) → t < right i → ends d (suc f) i (left i + t) ≡ ends i f (2 * i + 2) t
  unfolding visited
  to_right d f i t h = grind arith

  to_own : (d f i t : ℕ) → ends d (suc f) i (left i + (right i + t)) ≡ i
  unfolding visited
  to_own d f i t = grind arith

  -- how many targets of a cell end at j
  module _ (j : ℕ) where
    abbrev here : ℕ → ℕ
    here k = cond (eqb k j) 1 0

    own : (i : ℕ) → sum_below (weight_at s n i) (λ t. here i) ≡ hit (weight_at s n j) j i
    unfolding hit
    own i = sum_each (weight_at s n i) (here i) ∙ grind (arith, mul-one, mul-zero)

    from : (d f i : ℕ) → n ≤ i + f → sum_below (cell_at s n i) (λ t. here (ends d f i t)) ≡ under (weight_at s n j) f i j
    unfolding under sum_below
    from d zero i h = rw (beyond i (omega arith))
    from d (suc f) i h =
        rw (parts i)
        (omega (
          arith,
          sum_parts (left i) (right i + weight_at s n i) (λ t. here (ends d (suc f) i t)),
          sum_parts (right i) (weight_at s n i) (λ t. here (ends d (suc f) i (left i + t))),
          sum_same (left i) (λ t. here (ends d (suc f) i t)) (λ t. here (ends i f (2 * i + 1) t)) (λ t k. ap here (to_left d f i t k)),
          sum_same (right i) (λ t. here (ends d (suc f) i (left i + t))) (λ t. here (ends i f (2 * i + 2) t)) (λ t k. ap here (to_right d f i t k)),
          sum_same (weight_at s n i) (λ t. here (ends d (suc f) i (left i + (right i + t)))) (λ t. here i) (λ t k. ap here (to_own d f i t)),
          own i,
          from i f (2 * i + 1) (omega arith),
          from i f (2 * i + 2) (omega arith),
        ))

  -- a target of a cell ends below the count
  ends_below : (d f i t : ℕ) → n ≤ i + f → t < cell_at s n i → ends d f i t < n
  unfolding visited
  ends_below d zero i t h k = absurd (omega (arith, beyond i (omega arith)))
  ends_below d (suc f) i t h k =
      grind (arith, ends_below i f (2 * i + 1) t, ends_below i f (2 * i + 2) (t - left i), beyond i)

-- ---- the theorems, of a store that holds some weights
module _ {s : Store} {n : ℕ} {ws : List ℕ} (h : Holds s n ws) where
  abbrev last : ℕ → ℕ
  last t = last_of 0 (walk_path s n t)

  -- every target below the total is answered, and by a slot
  walks : (t : ℕ) → t < total s n → rule s n t ≡ gave (last t)
  unfolding rule damaged
  walks t k =
      rw (h.good, ne_eqb (total s n) 0 (λ e. omega arith), lt-leb (total s n) t k, all_sound s n h.sound (walk_path s n t))

  last_below : (t : ℕ) → t < total s n → last t < n
  last_below t k = ends_below s n h.sound 0 n 0 t (omega arith) k

  pub every_target_answered : (t : ℕ) → t < total s n → (i : ℕ) × (rule s n t ≡ gave i) × (i < n)
  every_target_answered t k = (last t, walks t k, last_below t k)

  last_weight : (i : ℕ) → i < n → how_many (total s n) (λ t. eqb (last t) i) ≡ get_or ws i 0
  last_weight i k = from s n h.sound i 0 n 0 (omega arith) ∙ under_root (weight_at s n i) n i k ∙ h.weigh i

  -- each slot answers as many targets below the total as its weight
  pub answers_weight : (i : ℕ) → i < n → how_many (total s n) (λ t. answers (rule s n t) i) ≡ get_or ws i 0
  answers_weight i k =
      sum_same (total s n) (λ t. cond (answers (rule s n t) i) 1 0) (λ t. cond (eqb (last t) i) 1 0) (λ t q. rw (walks t q)) ∙ last_weight i k

  -- the total is the sum of the weights
  pub total_is_sum : total s n ≡ sum_of ws
  total_is_sum =
      sym (sum_same (total s n) (λ t. cond (ltb (last t) n) 1 0) (λ t. 1) (λ t k. rw (lt-ltb (last t) n (last_below t k))) ∙ sum_each (total s n) 1 ∙ mul-one (total s n))
      ∙ sym (many_sorted (total s n) n last)
      ∙ sum_same n (λ i. how_many (total s n) (λ t. eqb (last t) i)) (λ i. get_or ws i 0) last_weight
      ∙ (rw (← h.long) (sum_list ws))
