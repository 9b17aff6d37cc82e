-- The way from a cell up to cell 0. The parents end at cell 0 by their own rule, whatever bound the definition has; what is tested and
-- changed along them goes a parent at a time; and along sound parents the cells only grow, so that each lies between the first cell and the
-- total. By recursion up the way. Assumes nothing.
use Rattle.std.proofs.Common.{ℕ, sym, zero, suc, ◌+◌, ◌*◌, ◌-◌, ◌/◌, ◌≤◌, ◌<◌, arith, Bool, true, false, ◌&&◌, ◌≡◌, refl, ap, ◌∙◌, List, [], ◌∷◌, ◌⊎◌, inl, inr, length, get_or, set, length-set, get_or-set_other}
use Rattle.weighted_tree.specs.Store.{Store, cell_at, sound_at}
use Rattle.weighted_tree.specs.Path.{parents_in, parents, path_of, sound_all, change_all, Each, CanChange}
use Rattle.weighted_tree.specs.Tests.{damaged}
use Rattle.weighted_tree.proofs.Cells.{cell_in, sound_le}

-- ---- the parents
enough : (f g i : ℕ) → i ≤ f → i ≤ g → parents_in f i ≡ parents_in g i
unfolding parents_in
enough zero zero zero p q = refl
enough zero (suc g) zero p q = refl
enough (suc f) zero zero p q = refl
enough (suc f) (suc g) zero p q = refl
enough zero g (suc i) p q = absurd (omega arith)
enough (suc f) zero (suc i) p q = absurd (omega arith)
enough (suc f) (suc g) (suc i) p q = ap (λ (l : List ℕ). i / 2 ∷ l) (enough f g (i / 2) (omega arith) (omega arith))

pub parents_suc : (i : ℕ) → parents (suc i) ≡ i / 2 ∷ parents (i / 2)
unfolding parents parents_in
parents_suc i = ap (λ (l : List ℕ). i / 2 ∷ l) (enough i (i / 2) (i / 2) (omega arith) (omega arith))

pub parents_top : (i : ℕ) → i ≤ 0 → parents i ≡ []
unfolding parents parents_in
parents_top zero h = refl
parents_top (suc i) h = absurd (omega arith)

pub parents_up : (i : ℕ) → 0 < i → parents i ≡ (i - 1) / 2 ∷ parents ((i - 1) / 2)
parents_up zero h = absurd (omega arith)
parents_up (suc i) h = let e : suc i - 1 ≡ i = omega arith in rw e (parents_suc i)

pub parents_from : (i k : ℕ) → 0 < i → k ≡ i - 1 → parents i ≡ k / 2 ∷ parents (k / 2)
parents_from i k h e = rw e (parents_up i h)

near : (p j : ℕ) → parents p ≡ parents j → j ≤ p + 1
near p zero e = omega arith
near zero (suc m) e =
    let z : [] ≡ m / 2 ∷ parents (m / 2) = sym (parents_top 0 (omega arith)) ∙ e ∙ parents_suc m in absurd (cc)
near (suc q) (suc m) e =
    let z : q / 2 ∷ parents (q / 2) ≡ m / 2 ∷ parents (m / 2) = sym (parents_suc q) ∙ e ∙ parents_suc m in
    let h : q / 2 ≡ m / 2 = cc in
    omega arith

-- what a step of the way up, from i to x, leaves to do
pub climbs : (i x j : ℕ) → parents i ≡ x ∷ parents j → (0 < i) × (x ≡ (i - 1) / 2) × (parents j ≡ parents x) × (j ≤ i)
climbs zero x j e = let z : [] ≡ x ∷ parents j = sym (parents_top 0 (omega arith)) ∙ e in absurd (cc)
climbs (suc k) x j e =
    let z : k / 2 ∷ parents (k / 2) ≡ x ∷ parents j = sym (parents_suc k) ∙ e in
    let h : k / 2 ≡ x = cc in
    let t : parents (k / 2) ≡ parents j = cc in
    (omega arith, omega arith, sym t ∙ ap parents h, omega (arith, near (k / 2) j t))

-- the way up with no bound: at cell 0 it ends, from any other cell it goes on from the parent
pub data Climb : ℕ → Type 0 where
  top : Climb 0
  up : (i : ℕ) → Climb (i / 2) → Climb (suc i)

climb_in : (f i : ℕ) → i ≤ f → Climb i
climb_in zero zero h = top
climb_in zero (suc i) h = absurd (omega arith)
climb_in (suc f) zero h = top
climb_in (suc f) (suc i) h = up i (climb_in f (i / 2) (omega arith))

pub climb : (i : ℕ) → Climb i
climb i = climb_in i i (omega arith)

-- the cells of the way up
abbrev above : {i : ℕ} → Climb i → List ℕ
above top = []
above (up i way) = i / 2 ∷ above way

-- the bound of the definition cuts nothing off
pub parents_unbounded : {i : ℕ} (way : Climb i) → parents i ≡ above way
parents_unbounded top = parents_top 0 (omega arith)
parents_unbounded (up i way) = parents_suc i ∙ ap (λ (l : List ℕ). i / 2 ∷ l) (parents_unbounded way)

-- ---- the test of a path, a cell at a time
pub sound_head : (s : Store) (n i : ℕ) (path : List ℕ) → sound_all s n (i ∷ path) ≡ true → (sound_at s n i ≡ true) × (sound_all s n path ≡ true)
unfolding sound_all
sound_head s n i path e = go (sound_at s n i) refl e
  where
    go : (b : Bool) → sound_at s n i ≡ b → (b && sound_all s n path) ≡ true → (sound_at s n i ≡ true) × (sound_all s n path ≡ true)
    go true q u = (q, u)
    go false q u = (q ∙ u, cc)

pub sound_cons : (s : Store) (n i : ℕ) (path : List ℕ) → sound_at s n i ≡ true → sound_all s n (i ∷ path) ≡ sound_all s n path
unfolding sound_all
sound_cons s n i path e = rw e

pub sound_stop : (s : Store) (n i : ℕ) (path : List ℕ) → sound_at s n i ≡ false → sound_all s n (i ∷ path) ≡ false
unfolding sound_all
sound_stop s n i path e = rw e

pub sound_none : (s : Store) (n : ℕ) (path : List ℕ) → path ≡ [] → sound_all s n path ≡ true
unfolding sound_all
sound_none s n path e = rw e

-- the test of the refusal
pub damaged_no : (s : Store) (n : ℕ) (path : List ℕ) → sound_all s n path ≡ true → damaged s n path ≡ false
unfolding damaged
damaged_no s n path e = rw e

pub damaged_yes : (s : Store) (n : ℕ) (path : List ℕ) → sound_all s n path ≡ false → damaged s n path ≡ true
unfolding damaged
damaged_yes s n path e = rw e

-- ---- a property of each cell of a path
module _ (P : ℕ → Type 0) (s : Store) where
  -- a cell that is no parent of i may change
  pub each_set : (k v : ℕ) {i : ℕ} → Climb i → i ≤ k → Each P s (parents i) → Each P (set s k v) (parents i)
  unfolding Each
  each_set k v top h r = rw (parents_top 0 (omega arith)) tt
  each_set k v (up i way) h r =
      let all : Each P s (i / 2 ∷ parents (i / 2)) = rw (parents_suc i) at r in
      rw (parents_suc i)
      (rw (get_or-set_other s k (i / 2) v 0 (omega arith)) (all.0, each_set k v way (omega arith) all.1))

-- ---- a change of the parents of a cell under way: it comes to the same as changing those of cell i from now, each of which can change
pub record Changing (rise fall cell : ℕ) (before s : Store) (i : ℕ) : Type 0 where
  pub inside : i ≤ length s
  pub can : Each (CanChange rise fall) s (parents i)
  pub same : change_all before rise fall (parents cell) ≡ change_all s rise fall (parents i)

module _ (rise fall cell : ℕ) (before s : Store) (i : ℕ) (w : Changing rise fall cell before s i) where
  pub change_end : parents i ≡ [] → s ≡ change_all before rise fall (parents cell)
  unfolding change_all
  change_end e = let same = w.same in sym (rw e at same)

  module _ (x j : ℕ) (e : parents i ≡ x ∷ parents j) where
    pub change_room : x < length s
    change_room = let up = climbs i x j e in omega (arith, w.inside)

    pub change_can : CanChange rise fall (get_or s x 0)
    unfolding Each
    change_can = let can = w.can in (rw e at can).0

    -- what was changed is no parent of what is left
    pub change_more : (v : ℕ) → v ≡ get_or s x 0 + rise - fall → Changing rise fall cell before (set s x v) j
    unfolding Each change_all
    change_more v is =
        let up = climbs i x j e in
        let can = w.can in
        let same = w.same in
        let rest : Each (CanChange rise fall) s (parents x) = rw up.2 at (rw e at can).1 in
        record {
          inside = simp length-set (omega (arith, w.inside));
          can = rw up.2 (each_set (CanChange rise fall) s x _ (climb x) (omega arith) rest);
          same = rw is (rw e at same);
        }

-- with cell 0 all is changed, so a return just after it is right
pub change_last : (rise fall cell : ℕ) (before s : Store) (i : ℕ) → Changing rise fall cell before s i → (x j : ℕ) → parents i ≡ x ∷ parents j → x < 1 → set s x (get_or s x 0 + rise - fall) ≡ change_all before rise fall (parents cell)
change_last rise fall cell before s i w x j e h =
    let up = climbs i x j e in
    change_end rise fall cell before _ j (change_more rise fall cell before s i w x j e _ refl) (up.2 ∙ parents_top x (omega arith))

-- ---- along sound parents the cells only grow
pub parity : (i : ℕ) → (i ≡ 2 * (i / 2)) ⊎ (i ≡ 2 * (i / 2) + 1)
parity i = go (i - 2 * (i / 2)) (omega arith) (omega arith)
  where
    go : (r : ℕ) → i ≡ 2 * (i / 2) + r → r < 2 → (i ≡ 2 * (i / 2)) ⊎ (i ≡ 2 * (i / 2) + 1)
    go zero e h = inl (omega arith)
    go (suc zero) e h = inr e
    go (suc (suc r)) e h = absurd (omega arith)

pub child_le : (s : Store) (n i : ℕ) → sound_at s n (i / 2) ≡ true → cell_at s n (suc i) ≤ cell_at s n (i / 2)
child_le s n i h = go (parity i)
  where
    go : ((i ≡ 2 * (i / 2)) ⊎ (i ≡ 2 * (i / 2) + 1)) → cell_at s n (suc i) ≤ cell_at s n (i / 2)
    go (inl e) = let k : 2 * (i / 2) + 1 ≡ suc i = omega arith in omega (arith, sound_le s n (i / 2) h, ap (cell_at s n) k)
    go (inr e) = let k : 2 * (i / 2) + 2 ≡ suc i = omega arith in omega (arith, sound_le s n (i / 2) h, ap (cell_at s n) k)

at_most_total : (s : Store) (n : ℕ) {i : ℕ} → Climb i → sound_all s n (parents i) ≡ true → cell_at s n i ≤ cell_at s n 0
at_most_total s n top e = omega arith
at_most_total s n (up i way) e =
    let h = sound_head s n (i / 2) _ (rw (parents_suc i) at e) in
    omega (arith, child_le s n i h.0, at_most_total s n way h.1)

-- so what holds of every number from a cell's to the total's holds of each cell on the way up
module _ (P : ℕ → Type 0) (s : Store) (n : ℕ) where
  pub each_parents : {i : ℕ} → Climb i → i ≤ n → sound_all s n (parents i) ≡ true → ((x : ℕ) → cell_at s n i ≤ x → x ≤ cell_at s n 0 → P x) → Each P s (parents i)
  unfolding Each
  each_parents top h e between = rw (parents_top 0 (omega arith)) tt
  each_parents (up i way) h e between =
      let k = sound_head s n (i / 2) _ (rw (parents_suc i) at e) in
      let c = child_le s n i k.0 in
      let t = at_most_total s n way k.1 in
      rw (parents_suc i)
      (rw (cell_in s n (i / 2) (omega arith)) at (between (cell_at s n (i / 2)) c t), each_parents way (omega arith) k.1 (λ x low high. between x (omega arith) high))

  pub each_path : (i : ℕ) → i < n → sound_all s n (path_of i) ≡ true → ((x : ℕ) → cell_at s n i ≤ x → x ≤ cell_at s n 0 → P x) → Each P s (path_of i)
  unfolding Each
  each_path i h e between =
      let k = sound_head s n i _ e in
      let t = at_most_total s n (climb i) k.1 in
      (rw (cell_in s n i h) at (between (cell_at s n i) (omega arith) t), each_parents (climb i) (omega arith) k.1 between)
