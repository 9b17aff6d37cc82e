-- A tree as it is made holds its weights. While the subtotals are gathered, each cell is its weight with what was gathered of its children:
-- nothing at the start, and at the end the children themselves. Assumes nothing.
use Prim.Native.Nat.{ℕ, zero, suc, ◌+◌, ◌*◌, ◌-◌, ◌/◌, ◌<◌, ◌≤◌}
use native.Mathlib.Omega.{arith}
use mathlib.Core.Bool.{true, false, cond}
use mathlib.Core.Path.{◌≡◌, refl, ◌∙◌}
use mathlib.Core.List.{List, [], ◌∷◌, ◌++◌}
use borrow.Author.Tests.{lt-ltb}
use lib.Dec.{ltb}
use Rattle.std.proofs.lemmas.Grind.{common_steps}
use lib.ListN.{length, get_or, set, drop, length-set, length-append, length-drop, get_or-eq_default}
use Rattle.weighted_tree.specs.Store.{Store, cell_at, children_at, sound_at, weight_at}
use Rattle.weighted_tree.specs.Tests.{bad_count}
use Rattle.weighted_tree.specs.New as new
use Rattle.weighted_tree.specs.New.{gathered}
use Rattle.weighted_tree.proofs.Cells.{cell_in, cell_out, sound_of, sound_beyond, weight_beyond, good_count, count_good}
use Rattle.promises.specs.Tree.{Holds}
use Rattle.promises.proofs.Hits.{hit, hit_children}

-- cell c where it was gathered already: those above k were
late : Store → ℕ → ℕ → ℕ → ℕ
late s n k c = cond (ltb k c) (cell_at s n c) 0

-- each cell is its weight with what was gathered of its children
Stage : Store → ℕ → ℕ → List ℕ → Type 0
Stage s n k ws = (i : ℕ) → i < n → get_or s i 0 ≡ get_or ws i 0 + (late s n k (2 * i + 1) + late s n k (2 * i + 2))

-- ---- a step: cell m + 1 goes into its parent
module _ (s : Store) (n m : ℕ) (fit : n ≤ length s) (inside : suc m < n) where
  next : Store
  next = set s (m / 2) (get_or s (m / 2) 0 + get_or s (suc m) 0)

  late_step : (c : ℕ) → late next n m c ≡ late s n (suc m) c + hit (get_or s (suc m) 0) (suc m) c
  unfolding next late hit cell_at
  late_step c = grind (arith, common_steps)

  -- the parent rises by the cell
  parent : (i : ℕ) → get_or next i 0 ≡ get_or s i 0 + hit (get_or s (suc m) 0) (m / 2) i
  unfolding next hit
  parent i = grind (arith, common_steps)

  stage_step : (ws : List ℕ) → Stage s n (suc m) ws → Stage next n m ws
  unfolding Stage
  stage_step ws h i k = omega (arith, h i k, parent i, late_step (2 * i + 1), late_step (2 * i + 2), hit_children (get_or s (suc m) 0) i m)

stage_all : (k : ℕ) (s : Store) (n : ℕ) (ws : List ℕ) → n ≤ length s → k < n → Stage s n k ws → Stage (gathered k s) n 0 ws
unfolding gathered next
stage_all zero s n ws fit h q = q
stage_all (suc k) s n ws fit h q =
    stage_all k (set s (k / 2) (get_or s (k / 2) 0 + get_or s (suc k) 0)) n ws (simp length-set fit) (omega arith) (stage_step s n k fit h ws q)

length_gathered : (k : ℕ) (s : Store) → length (gathered k s) ≡ length s
unfolding gathered
length_gathered zero s = refl
length_gathered (suc k) s = length_gathered k (set s (k / 2) (get_or s (k / 2) 0 + get_or s (suc k) 0)) ∙ simp length-set

-- ---- at the start nothing was gathered
stage_begin : (ws s : List ℕ) → 0 < length ws → Stage (ws ++ drop (length ws) s) (length ws) (length ws - 1) ws
unfolding Stage late cell_at
stage_begin ws s h i k = grind (arith, common_steps)

-- ---- at the end the children were
module _ (s : Store) (n : ℕ) (ws : List ℕ) (long : length ws ≡ n) (h : Stage s n 0 ws) where
  late_all : (c : ℕ) → 0 < c → late s n 0 c ≡ cell_at s n c
  unfolding late
  late_all c k = rw (lt-ltb 0 c k)

  end_cell : (i : ℕ) → cell_at s n i ≡ get_or ws i 0 + (cell_at s n (2 * i + 1) + cell_at s n (2 * i + 2))
  unfolding Stage
  end_cell i =
      grind (
        arith,
        h i,
        late_all (2 * i + 1),
        late_all (2 * i + 2),
        cell_in s n i,
        cell_out s n i,
        cell_out s n (2 * i + 1),
        cell_out s n (2 * i + 2),
        get_or-eq_default ws 0 {n = i},
      )

  end_sound : (i : ℕ) → sound_at s n i ≡ true
  end_sound i = sound_of s n i (omega (arith, end_cell i))

  end_weight : (i : ℕ) → weight_at s n i ≡ get_or ws i 0
  unfolding weight_at children_at
  end_weight i = omega (arith, end_cell i)

-- an empty tree, in any store
pub empty_holds : (s : Store) → Holds s 0 []
empty_holds s =
    record {
      good = count_good s 0 (omega arith) (omega arith);
      sound = λ i. sound_beyond s 0 i (omega arith);
      long = refl;
      weigh = λ i. weight_beyond s 0 i (omega arith);
    }

-- the theorem: whatever the store held
pub made_holds : (s : Store) (ws : List ℕ) → bad_count s (length ws) ≡ false → Holds (new.changed s ws) (length ws) ws
unfolding new.changed
made_holds s [] g = empty_holds (gathered (0 - 1) ([] ++ drop 0 s))
made_holds s (w ∷ ws) g =
    let n = length (w ∷ ws) in
    let fit = good_count s n g in
    let l = (w ∷ ws) ++ drop n s in
    let e : length l ≡ length s = omega (arith, length-append (w ∷ ws) (drop n s), length-drop n s) in
    let end = stage_all (n - 1) l n (w ∷ ws) (omega arith) (omega arith) (stage_begin (w ∷ ws) s (omega arith)) in
    record {
      good = count_good (gathered (n - 1) l) n fit.0 (omega (arith, length_gathered (n - 1) l));
      sound = λ i. end_sound (gathered (n - 1) l) n (w ∷ ws) refl end i;
      long = refl;
      weigh = λ i. end_weight (gathered (n - 1) l) n (w ∷ ws) refl end i;
    }
