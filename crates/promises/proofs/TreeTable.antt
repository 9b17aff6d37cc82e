-- The table of refusals, line by line, for the calls on a tree and for a number from words: each number is given exactly when its row is the first
-- whose case holds, no other is ever given, and a refused call leaves what it found and consumes no words. Assumes nothing.
use Prim.Native.Nat.{ℕ, zero, suc, ◌+◌, ◌-◌, ◌*◌, ◌/◌, ◌%◌, ◌^◌, ◌<◌}
use native.Mathlib.Omega.{arith}
use native.Mathlib.Nat.{mul_comm, pow-suc, div-div-eq-div-mul, div-eq_of_lt}
use mathlib.Core.Bool.{Bool, true, false, not, ◌&&◌, ◌||◌}
use mathlib.Core.Path.{◌≡◌, refl, sym, ◌∙◌}
use mathlib.Core.Logic.{inl, inr, ⊎_elim}
use mathlib.Core.List.{List, [], ◌∷◌}
use lib.Pow.{pow_pos}
use lib.Dec.{leb, eqb}
use lib.ListN.{length, get_or}
use Rattle.std.specs.Prelude.{Result}
use Rattle.std.proofs.lemmas.Bool.{false_from_ne_true}
use Rattle.counting.specs.Sum.{exceeds_u64}
use Rattle.refusal.specs.Answers.{tells}
use Rattle.refusal.specs.declared.Refusal.{Refusal}
use Rattle.refusal.specs.declared.Drawing.{Drawing}
use Rattle.words.specs.Below.{accepts, place}
use Rattle.words.specs.Below as below
use Rattle.words.proofs.First.{no_first}
use Rattle.weighted_tree.specs.Store.{Store, total, cell_at, children_at, sound_at}
use Rattle.weighted_tree.specs.Path.{parents, path_of, sound_all}
use Rattle.weighted_tree.proofs.Climb.{Climb, top, up, climb, parents_suc, parents_unbounded}
use Rattle.weighted_tree.specs.Tests.{bad_count, full, damaged}
use Rattle.weighted_tree.specs.New as new
use Rattle.weighted_tree.specs.IsValid as is_valid
use Rattle.weighted_tree.specs.Get as get
use Rattle.weighted_tree.specs.Pop as pop
use Rattle.weighted_tree.specs.Push as push
use Rattle.weighted_tree.specs.Update as update
use Rattle.weighted_tree.specs.Walk as walk
use Rattle.weighted_tree.specs.Draw as draw
use Rattle.weighted_tree.specs.IsSound as is_sound
use Rattle.promises.specs.Rows.{Accepted, NoWord, Unsound, SomeUnsound, ParentUnsound, PathUnsound, BadCount, Full, NoTotal, Exceeds, GivenBy, RefusedBy, WordRows, NewRows, CountRows, GetRows, PopRows, PushRows, UpdateRows, WalkRows, DrawRows}
use Rattle.promises.proofs.Rows.{Says, clash, says_less, says_most, says_is, says_not, says_or, says_and, says_as, rows_given, rows_kept}

-- ---- what each test says
pub says_exceeds : (x : ℕ) → Says (exceeds_u64 x) (Exceeds x)
says_exceeds x = says_as (says_less 18446744073709551615 x) (λ h. omega arith) (λ h. omega arith)

says_bad_count : (s : Store) (n : ℕ) → Says (bad_count s n) (BadCount s n)
unfolding bad_count
says_bad_count s n = says_or _ _ (says_less 4096 n) (says_less (length s) n)

says_full : (s : Store) (n : ℕ) → Says (full s n) (Full s n)
unfolding full
says_full s n = says_or _ _ (says_is n 4096) (says_is n (length s))

says_no_total : (s : Store) (n : ℕ) → Says (eqb (total s n) 0) (NoTotal s n)
unfolding cell_at
says_no_total s n = says_as (says_is (total s n) 0) (λ e. grind arith) (λ h. grind arith)

unsound_cell : (s : Store) (n i : ℕ) → Says (not (sound_at s n i)) (cell_at s n i < children_at s n i)
unfolding sound_at
unsound_cell s n i = says_as (says_not (leb (children_at s n i) (cell_at s n i)) (says_most (children_at s n i) (cell_at s n i))) (λ h. omega arith) (λ h. omega arith)

says_damaged : (s : Store) (n : ℕ) (path : List ℕ) → Says (damaged s n path) (SomeUnsound s n path)
unfolding damaged sound_all SomeUnsound children_at
says_damaged s n [] = (λ e. absurd (clash false e refl), λ h. absurd h)
says_damaged s n (i ∷ path) = rw (not_and (sound_at s n i) (sound_all s n path)) (says_or _ _ (unsound_cell s n i) (says_damaged s n path))
  where
    not_and : (a b : Bool) → not (a && b) ≡ (not a || not b)
    not_and true b = refl
    not_and false b = refl

-- the parents of a cell are its halves, counted from one
half : (m t : ℕ) → (suc m + 1) / 2 ^ suc t ≡ (m / 2 + 1) / 2 ^ t
half m t =
    let two : (suc m + 1) / 2 ≡ m / 2 + 1 = omega arith in
    let power : 2 ^ suc t ≡ 2 * 2 ^ t = pow-suc 2 t ∙ mul_comm (2 ^ t) 2 in
    rw power (sym (div-div-eq-div-mul (suc m + 1) 2 (2 ^ t)) ∙ (rw two))

small : (t : ℕ) → 1 / 2 ^ suc t ≡ 0
small t = div-eq_of_lt (let power : 2 ^ suc t ≡ 2 ^ t * 2 = pow-suc 2 t in omega (arith, pow_pos t))

module _ (s : Store) (n : ℕ) where
  -- what stands on the way up from the parent of a cell stands on the way up from the cell
  parents_up : (m : ℕ) → ParentUnsound s n (m / 2) → ParentUnsound s n (suc m)
  parents_up m (i, (t, e), u) = (i, (suc t, e ∙ sym (half m (suc t))), u)

  to_parents : {j : ℕ} → Climb j → SomeUnsound s n (parents j) → ParentUnsound s n j
  unfolding SomeUnsound
  to_parents top h = absurd (rw (parents_unbounded top) at h)
  to_parents (up m way) h =
      let here : m / 2 + 1 ≡ (suc m + 1) / 2 ^ 1 = omega arith in
      ⊎_elim (λ (u : Unsound s n (m / 2)). (m / 2, (0, here), u)) (λ (later : SomeUnsound s n (parents (m / 2))). parents_up m (to_parents way later)) (rw (parents_suc m) at h)

  from_parents : {j : ℕ} → Climb j → ParentUnsound s n j → SomeUnsound s n (parents j)
  unfolding SomeUnsound
  from_parents top (i, (t, e), u) = absurd (omega (arith, e ∙ small t))
  from_parents (up m way) (i, (zero, e), u) =
      let same : i ≡ m / 2 = omega arith in
      rw (parents_suc m) (inl (rw same at u))
  from_parents (up m way) (i, (suc t, e), u) = rw (parents_suc m) (inr (from_parents way (i, (t, e ∙ half m (suc t)), u)))

  says_parents : (j : ℕ) → Says (damaged s n (parents j)) (ParentUnsound s n j)
  says_parents j = says_as (says_damaged s n (parents j)) (to_parents (climb j)) (from_parents (climb j))

  says_path : (j : ℕ) → Says (damaged s n (path_of j)) (PathUnsound s n j)
  unfolding SomeUnsound
  says_path j = says_as (says_damaged s n (path_of j)) to from
    where
      whole : (j + 1) / 2 ^ 0 ≡ j + 1
      whole = omega arith

      to : SomeUnsound s n (path_of j) → PathUnsound s n j
      to h =
          ⊎_elim (λ (u : Unsound s n j). (j, (0, sym whole), u))
          (λ (later : SomeUnsound s n (parents j)). let found = to_parents (climb j) later in (found.0, (suc found.1.0, found.1.1), found.2)) h

      from : PathUnsound s n j → SomeUnsound s n (path_of j)
      from (i, (zero, e), u) = let same : i ≡ j = omega (arith, e ∙ whole) in inl (rw same at u)
      from (i, (suc t, e), u) = inr (from_parents (climb j) (i, (t, e), u))

says_accepted : (T w : ℕ) → Says (accepts T w) (Accepted T w)
unfolding accepts
says_accepted T w = says_and _ _ (says_less 0 T) (says_less w (2 ^ 64 - 2 ^ 64 % T))

pub says_no_word : (T : ℕ) (pool : List ℕ) → Says (eqb (place T pool) 0) (NoWord T pool)
says_no_word T pool =
    says_as (says_is (place T pool) 0)
    (λ z i l a. clash _ ((says_accepted T (get_or pool i 0)).1 a) ((no_first (accepts T) pool).0 z i l))
    (λ h. (no_first (accepts T) pool).1 (λ i l. false_from_ne_true _ (λ e. h i l ((says_accepted T (get_or pool i 0)).0 e))))

-- ---- the calls
pub number_below_table : {pool : List ℕ} {T : ℕ} {r : Result (ℕ × ℕ) Refusal} → below.Promise pool T r → GivenBy (WordRows T pool) (tells r)
unfolding below.rule
number_below_table {pool} {T} {r} p = rows_given _ _ (below.refusals T pool) (WordRows T pool) p.answer (refl, says_no_word T pool, tt)

pub new_table : {s after : Store} {ws : List ℕ} {r : Result ℕ Refusal} → new.Promise s ws r after → RefusedBy (NewRows s ws) (tells r) s after
unfolding new.rule
new_table {s} {after} {ws} {r} p =
    rows_kept _ _ (new.refusals s ws) (NewRows s ws) (new.changed s ws) s after p.answer p.store
    (refl, says_bad_count s (length ws), (refl, says_exceeds _, tt))

pub is_valid_table : {s : Store} {n : ℕ} {r : Result Bool Refusal} → is_valid.Promise s n r → GivenBy (CountRows s n) (tells r)
unfolding is_valid.rule
is_valid_table {s} {n} {r} p = rows_given _ _ (is_valid.refusals s n) (CountRows s n) p.answer (refl, says_bad_count s n, tt)

pub get_table : {s : Store} {n i : ℕ} {r : Result ℕ Refusal} → get.Promise s n i r → GivenBy (GetRows s n i) (tells r)
unfolding get.rule SomeUnsound
get_table {s} {n} {i} {r} p =
    rows_given _ _ (get.refusals s n i) (GetRows s n i) p.answer
    (refl, says_bad_count s n, (refl, says_most n i, (refl, says_as (says_damaged s n (i ∷ [])) (λ h. ⊎_elim (λ x. x) (λ y. absurd y) h) (λ x. inl x), tt)))

pub pop_table : {s after : Store} {n : ℕ} {r : Result (ℕ × ℕ) Refusal} → pop.Promise s n r after → RefusedBy (PopRows s n) (tells r) s after
unfolding pop.rule
pop_table {s} {after} {n} {r} p =
    rows_kept _ _ (pop.refusals s n) (PopRows s n) (pop.changed s n) s after p.answer p.store
    (refl, says_bad_count s n, (refl, says_is n 0, (refl, says_path s n (n - 1), tt)))

pub push_table : {s after : Store} {n w : ℕ} {r : Result ℕ Refusal} → push.Promise s n w r after → RefusedBy (PushRows s n w) (tells r) s after
unfolding push.rule
push_table {s} {after} {n} {w} {r} p =
    rows_kept _ _ (push.refusals s n w) (PushRows s n w) (push.changed s n w) s after p.answer p.store
    (refl, says_bad_count s n, (refl, says_full s n, (refl, says_parents s n n, (refl, says_exceeds _, tt))))

pub update_table : {s after : Store} {n i w : ℕ} {r : Result ℕ Refusal} → update.Promise s n i w r after → RefusedBy (UpdateRows s n i w) (tells r) s after
unfolding update.rule
update_table {s} {after} {n} {i} {w} {r} p =
    rows_kept _ _ (update.refusals s n i w) (UpdateRows s n i w) (update.changed s n i w) s after p.answer p.store
    (refl, says_bad_count s n, (refl, says_most n i, (refl, says_path s n i, (refl, says_exceeds _, tt))))

pub walk_table : {s : Store} {n t : ℕ} {r : Result ℕ Refusal} → walk.Promise s n t r → GivenBy (WalkRows s n t) (tells r)
unfolding walk.rule
walk_table {s} {n} {t} {r} p =
    rows_given _ _ (walk.refusals s n t) (WalkRows s n t) p.answer
    (refl, says_bad_count s n, (refl, says_no_total s n, (refl, says_most _ t, (refl, says_damaged s n _, tt))))

-- a refused draw consumes no words
pub draw_table : {s : Store} {n : ℕ} {pool : List ℕ} {r : Drawing} → draw.Promise s n pool r → RefusedBy (DrawRows s n pool) (tells r.outcome) 0 r.words
unfolding draw.rule
draw_table {s} {n} {pool} {r} p =
    rows_kept _ _ (draw.refusals s n pool) (DrawRows s n pool) (place (total s n) pool) 0 r.words p.answer p.words
    (refl, says_bad_count s n, (refl, says_no_total s n, (refl, says_no_word _ pool, (refl, says_damaged s n _, tt))))

pub is_sound_table : {s : Store} {n : ℕ} {r : Result Bool Refusal} → is_sound.Promise s n r → GivenBy (CountRows s n) (tells r)
unfolding is_sound.rule
is_sound_table {s} {n} {r} p = rows_given _ _ (is_sound.refusals s n) (CountRows s n) p.answer (refl, says_bad_count s n, tt)
