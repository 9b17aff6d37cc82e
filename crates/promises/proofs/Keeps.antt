-- A store that holds some weights holds what push, pop and update make of them. Each of the three changes the weight of one slot, and the list
-- of weights in the same place. Assumes nothing.
use Prim.Native.Nat.{ℕ, zero, suc, ◌+◌, ◌*◌, ◌-◌, ◌<◌, ◌≤◌}
use native.Mathlib.Omega.{arith}
use mathlib.Core.Bool.{true, false}
use mathlib.Core.Path.{◌≡◌, refl, ap, ◌∙◌}
use mathlib.Core.List.{List, [], ◌∷◌, ◌++◌}
use lib.ListN.{length, get_or, set, take, length-set, length-append}
use lib.Seq.{length-take-le}
use Rattle.std.proofs.lemmas.Grind.{common_steps}
use Rattle.weighted_tree.specs.Store.{Store, cell_at, children_at, sound_at, weight_at}
use Rattle.weighted_tree.specs.Path.{parents, path_of, sound_all, change_all}
use Rattle.weighted_tree.specs.Tests.{full}
use Rattle.weighted_tree.specs.Pop as pop
use Rattle.weighted_tree.specs.Push as push
use Rattle.weighted_tree.specs.Update as update
use Rattle.weighted_tree.proofs.Cells.{cell_out, good_count, count_good, has_room, weight_le}
use Rattle.weighted_tree.proofs.Climb.{climb, each_parents, each_path, each_set}
use Rattle.promises.specs.Tree.{Holds}
use Rattle.promises.proofs.Hits.{hit, hit_le, length_change, set_change, Enough}
use Rattle.promises.proofs.Weigh.{change_sound, change_weight, push_cells, pop_cells, update_cells}

-- where all cells are sound, those of any path are
pub all_sound : (s : Store) (n : ℕ) → ((i : ℕ) → sound_at s n i ≡ true) → (path : List ℕ) → sound_all s n path ≡ true
unfolding sound_all
all_sound s n h [] = refl
all_sound s n h (x ∷ path) = rw (h x) (all_sound s n h path)

-- ---- push
get_d_snoc : (ws : List ℕ) (w i : ℕ) → get_or (ws ++ (w ∷ [])) i 0 ≡ get_or ws i 0 + hit w (length ws) i
unfolding hit
get_d_snoc ws w i = grind (arith, common_steps)

pub pushed_holds : (s : Store) (n w : ℕ) (ws : List ℕ) → Holds s n ws → full s n ≡ false → Holds (push.changed s n w) (n + 1) (ws ++ (w ∷ []))
unfolding push.changed
pushed_holds s n w ws h r =
    let room = has_room s n h.good r in
    let s' = change_all (set s n w) w 0 (parents n) in
    let up = each_parents (Enough w 0) s n (climb n) (omega arith) (all_sound s n h.sound (parents n)) (λ x low high. omega arith) in
    let cells = push_cells s n w room.1 (each_set (Enough w 0) s n w (climb n) (omega arith) up) in
    let none : (i : ℕ) → hit 0 n i ≤ weight_at s n i + hit w n i = λ i. hit_le 0 n i _ (λ e. omega arith) in
    record {
      good = count_good s' (n + 1) (omega arith) (omega (arith, length_change (set s n w) w 0 (parents n), length-set s n w));
      sound = λ i. change_sound s n s' (n + 1) w 0 n cells i (h.sound i) (none i);
      long = length-append ws (w ∷ []) ∙ ap (λ (k : ℕ). k + 1) h.long;
      weigh = λ i.
          omega (
            arith,
            change_weight s n s' (n + 1) w 0 n cells i (h.sound i) (none i),
            hit_le 0 n i 0 (λ e. omega arith),
            h.weigh i,
            get_d_snoc ws w i,
            ap (λ (k : ℕ). hit w k i) h.long,
          );
    }

-- ---- pop
-- the last slot has no children
pub last_weight : (s : Store) (m : ℕ) → cell_at s (suc m) m ≡ weight_at s (suc m) m
unfolding weight_at children_at
last_weight s m = omega (arith, cell_out s (suc m) (2 * m + 1) (omega arith), cell_out s (suc m) (2 * m + 2) (omega arith))

get_d_init : (ws : List ℕ) (m i : ℕ) → length ws ≡ suc m → get_or ws i 0 ≡ get_or (take m ws) i 0 + hit (get_or ws m 0) m i
unfolding hit
get_d_init ws m i h = grind (arith, common_steps)

popped_suc : (s : Store) (m : ℕ) (ws : List ℕ) → Holds s (suc m) ws → Holds (pop.changed s (suc m)) (suc m - 1) (take (suc m - 1) ws)
unfolding pop.changed
popped_suc s m ws h =
    let e : suc m - 1 ≡ m = omega arith in
    let fit = good_count s (suc m) h.good in
    let w = weight_at s (suc m) m in
    let s' = set (change_all s 0 w (parents m)) m 0 in
    let own = weight_le s (suc m) m in
    let down = each_parents (Enough 0 w) s (suc m) (climb m) (omega arith) (all_sound s (suc m) h.sound (parents m)) (λ x low high. omega arith) in
    let cells = pop_cells s m w fit.1 (last_weight s m) down in
    let le : (i : ℕ) → hit w m i ≤ weight_at s (suc m) i + hit 0 m i = λ i. hit_le w m i _ (λ q. omega (arith, ap (weight_at s (suc m)) q)) in
    rw e
    (record {
      good = count_good s' m (omega arith) (omega (arith, length-set (change_all s 0 w (parents m)) m 0, length_change s 0 w (parents m)));
      sound = λ i. change_sound s (suc m) s' m 0 w m cells i (h.sound i) (le i);
      long = length-take-le m ws (omega (arith, h.long));
      weigh = λ i.
          omega (
            arith,
            change_weight s (suc m) s' m 0 w m cells i (h.sound i) (le i),
            hit_le 0 m i 0 (λ q. omega arith),
            get_d_init ws m i h.long,
            h.weigh i,
            ap (λ (k : ℕ). hit k m i) (h.weigh m),
          );
    })

pub popped_holds : (s : Store) (n : ℕ) (ws : List ℕ) → Holds s n ws → 0 < n → Holds (pop.changed s n) (n - 1) (take (n - 1) ws)
popped_holds s zero ws h k = absurd (omega arith)
popped_holds s (suc m) ws h k = popped_suc s m ws h

-- ---- update
-- the list of weights changes by the same rise and fall
get_d_set : (ws : List ℕ) (j w i : ℕ) → j < length ws → get_or (set ws j w) i 0 + hit (get_or ws j 0 - w) j i ≡ get_or ws i 0 + hit (w - get_or ws j 0) j i
get_d_set ws j w i h =
    let e : get_or ws j 0 + (w - get_or ws j 0) - (get_or ws j 0 - w) ≡ w = omega arith in
    rw e at (set_change ws j (w - get_or ws j 0) (get_or ws j 0 - w) i h (omega arith))

pub updated_holds : (s : Store) (n j w : ℕ) (ws : List ℕ) → Holds s n ws → j < n → Holds (update.changed s n j w) n (set ws j w)
unfolding update.changed
updated_holds s n j w ws h k =
    let fit = good_count s n h.good in
    let rise = w - weight_at s n j in
    let fall = weight_at s n j - w in
    let s' = change_all s rise fall (path_of j) in
    let own = weight_le s n j in
    let enough = each_path (Enough rise fall) s n j k (all_sound s n h.sound (path_of j)) (λ x low high. omega arith) in
    let cells = update_cells s n rise fall j fit.1 k enough in
    let le : (i : ℕ) → hit fall j i ≤ weight_at s n i + hit rise j i = λ i. hit_le fall j i _ (λ e. omega (arith, ap (weight_at s n) e)) in
    record {
      good = count_good s' n fit.0 (omega (arith, length_change s rise fall (path_of j)));
      sound = λ i. change_sound s n s' n rise fall j cells i (h.sound i) (le i);
      long = length-set ws j w ∙ h.long;
      weigh = λ i.
          omega (
            arith,
            change_weight s n s' n rise fall j cells i (h.sound i) (le i),
            get_d_set ws j w i (omega (arith, h.long)),
            h.weigh i,
            ap (λ (x : ℕ). hit (w - x) j i) (h.weigh j),
            ap (λ (x : ℕ). hit (x - w) j i) (h.weigh j),
          );
    }
