-- A change along the way up from a slot changes the weight of that slot alone, and keeps every cell sound. Each cell gains and loses what its
-- children do together, and the slot itself the rest. Assumes nothing.
use Prim.Native.Nat.{ℕ, suc, ◌+◌, ◌*◌, ◌<◌, ◌≤◌}
use native.Mathlib.Omega.{arith}
use mathlib.Core.Bool.{true}
use mathlib.Core.Path.{◌≡◌}
use Rattle.std.proofs.lemmas.Grind.{common_steps}
use lib.ListN.{length, get_or, set, length-set}
use Rattle.weighted_tree.specs.Store.{Store, cell_at, children_at, sound_at, weight_at}
use Rattle.weighted_tree.specs.Path.{parents, path_of, change_all, Each}
use Rattle.weighted_tree.proofs.Cells.{sound_le, sound_of}
use Rattle.weighted_tree.proofs.Climb.{climb}
use Rattle.promises.proofs.Hits.{hit, on_path, on_path_children, on_path_above, on_path_out, cell_change, cell_change_path, Enough}

-- a rise and a fall along the way up from j
module _ (s : Store) (n : ℕ) (s' : Store) (n' rise fall j : ℕ) (cells : (i : ℕ) → cell_at s' n' i + on_path fall (path_of j) i ≡ cell_at s n i + on_path rise (path_of j) i) where
  pub change_sound : (i : ℕ) → sound_at s n i ≡ true → hit fall j i ≤ weight_at s n i + hit rise j i → sound_at s' n' i ≡ true
  unfolding on_path weight_at children_at
  change_sound i h q =
      sound_of s' n' i
      (omega (arith, sound_le s n i h, cells i, cells (2 * i + 1), cells (2 * i + 2), on_path_children fall (climb j) i, on_path_children rise (climb j) i))

  pub change_weight : (i : ℕ) → sound_at s n i ≡ true → hit fall j i ≤ weight_at s n i + hit rise j i → weight_at s' n' i + hit fall j i ≡ weight_at s n i + hit rise j i
  unfolding on_path weight_at children_at
  change_weight i h q =
      omega (arith, sound_le s n i h, cells i, cells (2 * i + 1), cells (2 * i + 2), on_path_children fall (climb j) i, on_path_children rise (climb j) i)

-- ---- push: cell n is new, and rises by the weight with its parents
module _ (s : Store) (n w : ℕ) (room : n < length s) where
  abbrev pushed : Store
  pushed = change_all (set s n w) w 0 (parents n)

  pub push_cells : Each (Enough w 0) (set s n w) (parents n) → (i : ℕ) → cell_at pushed (n + 1) i + on_path 0 (path_of n) i ≡ cell_at s n i + on_path w (path_of n) i
  unfolding on_path hit cell_at
  push_cells enough i =
      -- the parents of cell n rise, and cell n is the weight
      let risen : get_or pushed i 0 + on_path 0 (parents n) i ≡ get_or (set s n w) i 0 + on_path w (parents n) i = cell_change (set s n w) w 0 (climb n) (simp length-set (omega arith)) enough i in
      grind (arith, common_steps, risen, on_path_above w (climb n) i, on_path_above 0 (climb n) i)

-- ---- pop: cell m, the last, is gone, and its parents fall by the weight
module _ (s : Store) (m w : ℕ) (room : m < length s) (own : cell_at s (suc m) m ≡ w) where
  abbrev popped : Store
  popped = set (change_all s 0 w (parents m)) m 0

  pub pop_cells : Each (Enough 0 w) s (parents m) → (i : ℕ) → cell_at popped m i + on_path w (path_of m) i ≡ cell_at s (suc m) i + on_path 0 (path_of m) i
  unfolding on_path hit cell_at
  pop_cells enough i =
      let fallen : get_or (change_all s 0 w (parents m)) i 0 + on_path w (parents m) i ≡ get_or s i 0 + on_path 0 (parents m) i = cell_change s 0 w (climb m) (omega arith) enough i in
      grind (arith, common_steps, fallen, own, on_path_above w (climb m) i, on_path_above 0 (climb m) i)

-- ---- update: slot j and its parents change
pub update_cells : (s : Store) (n rise fall j : ℕ) → n ≤ length s → j < n → Each (Enough rise fall) s (path_of j) → (i : ℕ) → cell_at (change_all s rise fall (path_of j)) n i + on_path fall (path_of j) i ≡ cell_at s n i + on_path rise (path_of j) i
unfolding cell_at
update_cells s n rise fall j long inside enough i =
    grind (arith, cell_change_path s rise fall j (omega arith) enough i, on_path_out rise j i, on_path_out fall j i)
