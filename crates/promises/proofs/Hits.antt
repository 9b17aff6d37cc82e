-- A number at one place and 0 elsewhere, and what a change along a path leaves in each cell: every cell counts how often it stands on the
-- path. By recursion up the way. Assumes nothing.
use Prim.Native.Nat.{ℕ, suc, ◌+◌, ◌*◌, ◌-◌, ◌/◌, ◌<◌, ◌≤◌}
use native.Mathlib.Omega.{arith}
use mathlib.Core.Bool.{cond}
use mathlib.Core.Path.{◌≡◌, refl, ◌∙◌}
use mathlib.Core.List.{List, [], ◌∷◌}
use lib.Dec.{eqb}
use Rattle.std.proofs.lemmas.Grind.{common_steps}
use lib.ListN.{length, get_or, set, length-set}
use Rattle.weighted_tree.specs.Store.{Store}
use Rattle.weighted_tree.specs.Path.{parents, path_of, change_all, Each}
use Rattle.weighted_tree.proofs.Climb.{Climb, top, up, climb, parents_suc, parents_top, each_set}

-- v where i is j, and else 0
unfoldable pub hit : ℕ → ℕ → ℕ → ℕ
hit v i j = cond (eqb i j) v 0

pub hit_le : (d j i v : ℕ) → (j ≡ i → d ≤ v) → hit d j i ≤ v
unfolding hit
hit_le d j i v h = grind arith

-- of the children of i just one is j + 1 if i is its parent, and else none
pub hit_children : (v i j : ℕ) → hit v (suc j) (2 * i + 1) + hit v (suc j) (2 * i + 2) ≡ hit v (j / 2) i
unfolding hit
hit_children v i j = grind arith

-- v for each time that i stands on a path
unfoldable pub on_path : ℕ → List ℕ → ℕ → ℕ
on_path v [] i = 0
on_path v (x ∷ path) i = hit v x i + on_path v path i

pub on_path_zero : (path : List ℕ) (i : ℕ) → on_path 0 path i ≡ 0
unfolding on_path
on_path_zero [] i = refl
on_path_zero (x ∷ path) i = omega (arith, on_path_zero path i, hit_le 0 x i 0 (λ e. omega arith))

-- the way up from j comes to i's parents by one of i's children
pub on_path_children : (v : ℕ) {j : ℕ} → Climb j → (i : ℕ) → on_path v (path_of j) (2 * i + 1) + on_path v (path_of j) (2 * i + 2) ≡ on_path v (parents j) i
unfolding on_path hit
on_path_children v top i = rw (parents_top 0 (omega arith)) (grind arith)
on_path_children v (up j way) i = rw (parents_suc j) (omega (arith, on_path_children v way i, hit_children v i j))

-- the parents are below
pub on_path_above : (v : ℕ) {j : ℕ} → Climb j → (i : ℕ) → j ≤ i → on_path v (parents j) i ≡ 0
unfolding on_path hit
on_path_above v top i h = rw (parents_top 0 (omega arith))
on_path_above v (up j way) i h = rw (parents_suc j) (grind (arith, on_path_above v way i))

pub on_path_out : (v j i : ℕ) → j < i → on_path v (path_of j) i ≡ 0
unfolding on_path hit
on_path_out v j i h = grind (arith, on_path_above v (climb j) i)

-- ---- what a change leaves in each cell
pub length_change : (s : Store) (rise fall : ℕ) (path : List ℕ) → length (change_all s rise fall path) ≡ length s
unfolding change_all
length_change s rise fall [] = refl
length_change s rise fall (x ∷ path) = length_change (set s x (get_or s x 0 + rise - fall)) rise fall path ∙ simp length-set

pub set_change : (s : List ℕ) (x rise fall i : ℕ) → x < length s → fall ≤ get_or s x 0 + rise → get_or (set s x (get_or s x 0 + rise - fall)) i 0 + hit fall x i ≡ get_or s i 0 + hit rise x i
unfolding hit
set_change s x rise fall i h q = grind (arith, common_steps)

-- a cell has enough for the fall after the rise
abbrev pub Enough : ℕ → ℕ → ℕ → Type 0
Enough rise fall x = fall ≤ x + rise

pub cell_change : (s : Store) (rise fall : ℕ) {j : ℕ} → Climb j → j ≤ length s → Each (Enough rise fall) s (parents j) → (i : ℕ)
    → get_or (change_all s rise fall (parents j)) i 0 + on_path fall (parents j) i ≡ get_or s i 0 + on_path rise (parents j) i
unfolding change_all on_path Each
cell_change s rise fall top h q i = rw (parents_top 0 (omega arith)) refl
cell_change s rise fall (up j way) h q i =
    let r : Each (Enough rise fall) s (j / 2 ∷ parents (j / 2)) = rw (parents_suc j) at q in
    rw (parents_suc j)
    (omega (
      arith,
      cell_change (set s (j / 2) (get_or s (j / 2) 0 + rise - fall)) rise fall way (simp length-set (omega arith)) (each_set (Enough rise fall) s (j / 2) _ way (omega arith) r.1) i,
      set_change s (j / 2) rise fall i (omega arith) r.0,
    ))

pub cell_change_path : (s : Store) (rise fall j : ℕ) → j < length s → Each (Enough rise fall) s (path_of j) → (i : ℕ) → get_or (change_all s rise fall (path_of j)) i 0 + on_path fall (path_of j) i ≡ get_or s i 0 + on_path rise (path_of j) i
unfolding change_all on_path Each
cell_change_path s rise fall j h q i =
    omega (
      arith,
      cell_change (set s j (get_or s j 0 + rise - fall)) rise fall (climb j) (simp length-set (omega arith)) (each_set (Enough rise fall) s j _ (climb j) (omega arith) q.1) i,
      set_change s j rise fall i h q.0,
    )
