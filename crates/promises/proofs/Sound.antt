-- A made tree is sound whatever the store held, and every call that changes a store keeps a sound one sound. A sound store holds the weights
-- that it shows, and the calls keep that. Assumes nothing.
use Prim.Native.Nat.{ℕ, zero, suc, ◌+◌, ◌-◌, ◌≤◌, ◌<◌}
use native.Mathlib.Omega.{arith}
use mathlib.Core.Bool.{Bool, true, false}
use mathlib.Core.Path.{◌≡◌, refl, sym, ap, ◌∙◌}
use mathlib.Core.List.{List, [], ◌∷◌}
use mathlib.Core.Logic.{◌↔◌}
use borrow.Author.Tests.{le-leb, leb-true, eqb-false, leb-false}
use lib.ListN.{length, get_or-eq_default}
use Rattle.std.specs.Prelude.{Result, Ok}
use Rattle.counting.proofs.Below.{length_below, get_d_below}
use Rattle.refusal.specs.Outcome.{Outcome, gave, refused, in_order, leaves, None}
use Rattle.refusal.specs.Answers.{tells}
use Rattle.refusal.specs.declared.Refusal.{Refusal}
use Rattle.refusal.proofs.Named.{answer_determined}
use Rattle.refusal.proofs.Order.{gives, given_means}
use Rattle.weighted_tree.specs.Store.{Store, cell_at, children_at, sound_at, weight_at}
use Rattle.weighted_tree.specs.Path.{sound_all, indexes_below}
use Rattle.weighted_tree.specs.Tests.{bad_count}
use Rattle.weighted_tree.specs.New as new
use Rattle.weighted_tree.specs.Pop as pop
use Rattle.weighted_tree.specs.Push as push
use Rattle.weighted_tree.specs.Update as update
use Rattle.weighted_tree.specs.IsSound as is_sound
use Rattle.weighted_tree.proofs.Cells.{sound_beyond, weight_beyond}
use Rattle.weighted_tree.proofs.Climb.{sound_head, sound_cons, sound_none}
use Rattle.promises.specs.Tree.{count_left, Sound, shown, Holds}
use Rattle.promises.proofs.Makes.{made_holds}
use Rattle.promises.proofs.Keeps.{pushed_holds, popped_holds, updated_holds}

-- ---- a sound store holds the weights that it shows
-- one cell, by the test and in arithmetic
sound_test : (s : Store) (n i : ℕ) → children_at s n i ≤ cell_at s n i → sound_at s n i ≡ true
unfolding sound_at
sound_test s n i h = le-leb _ _ h

test_sound : (s : Store) (n i : ℕ) → sound_at s n i ≡ true → children_at s n i ≤ cell_at s n i
unfolding sound_at
test_sound s n i e = leb-true _ _ e

pub sound_holds : (s : Store) (n : ℕ) → bad_count s n ≡ false → Sound s n → Holds s n (shown s n)
sound_holds s n g h =
    record {
      good = g;
      sound = λ i. grind (arith, sound_test s n i, h i, sound_beyond s n i);
      long = length_below n (weight_at s n);
      weigh = λ i. grind (arith, get_d_below n (weight_at s n) i, weight_beyond s n i, get_or-eq_default (shown s n) 0 {n = i}, length_below n (weight_at s n));
    }

pub holds_sound : (s : Store) (n : ℕ) (ws : List ℕ) → Holds s n ws → Sound s n
holds_sound s n ws h i k = test_sound s n i (h.sound i)

-- ---- the theorems
-- what holds of a value that is given where no test of a refusal holds, and of each refusal, holds of what the call comes to
pub by_ends : {A : Type 0} (rs : List (ℕ × Bool)) (v : A) (P : Outcome A → Type 0) → (None rs → P (gave v)) → ((k : ℕ) → P (refused k)) → P (in_order rs (gave v))
by_ends [] v P f h = f tt
by_ends ((j, true) ∷ rs) v P f h = h j
by_ends ((j, false) ∷ rs) v P f h = by_ends rs v P (λ none. f (refl, none)) h

-- what a call leaves is sound: where it is refused as it was, else by what it changes
keeps : {A : Type 0} (rs : List (ℕ × Bool)) (v : A) (counted : A → ℕ) (o : Outcome A) (s changed after : Store) (n : ℕ) → o ≡ in_order rs (gave v) → after ≡ leaves (in_order rs (gave v)) changed s
    → (None rs → Sound changed (counted v)) → Sound s n → Sound after (count_left counted o n)
keeps rs v counted o s changed after n p q f h = rw (p, q) (by_ends rs v (λ o. Sound (leaves o changed s) (count_left counted o n)) f (λ k. h))

-- making over any store contents gives a sound store
pub new_sound : {s : Store} {ws : List ℕ} {r : Result ℕ Refusal} {after : Store} (n : ℕ) → new.Promise s ws r after → tells r ≡ gave n → Sound after n
unfolding new.rule
new_sound {s} {ws} {r} {after} n p e =
    let m = given_means (new.refusals s ws) (length ws) n (sym p.answer ∙ e) in
    rw (← m.1, p.store, (gives (new.refusals s ws) (length ws)).1 m.0)
    (holds_sound _ _ _ (made_holds s ws m.0.0))

-- every call keeps a sound store sound, with the count that it leaves
module _ {s : Store} {n : ℕ} (h : Sound s n) where
  pub push_sound : {w : ℕ} {r : Result ℕ Refusal} {after : Store} → push.Promise s n w r after → Sound after (count_left (λ m. m) (tells r) n)
  unfolding push.rule
  push_sound {w} {r} {after} p =
      keeps (push.refusals s n w) (n + 1) (λ m. m) (tells r) s (push.changed s n w) after n p.answer p.store
      (λ none. holds_sound _ _ _ (pushed_holds s n w (shown s n) (sound_holds s n none.0 h) none.1.0))
      h

  pub pop_sound : {r : Result (ℕ × ℕ) Refusal} {after : Store} → pop.Promise s n r after → Sound after (count_left (λ v. v.1) (tells r) n)
  unfolding pop.rule
  pop_sound {r} {after} p =
      keeps {A = ℕ × ℕ} (pop.refusals s n) (weight_at s n (n - 1), n - 1) (λ v. v.1) (tells r) s (pop.changed s n) after n p.answer p.store
      (λ none. holds_sound _ _ _ (popped_holds s n (shown s n) (sound_holds s n none.0 h) (omega (arith, eqb-false _ _ none.1.0))))
      h

  pub update_sound : {i w : ℕ} {r : Result ℕ Refusal} {after : Store} → update.Promise s n i w r after → Sound after (count_left (λ m. m) (tells r) n)
  unfolding update.rule
  update_sound {i} {w} {r} {after} p =
      keeps (update.refusals s n i w) n (λ m. m) (tells r) s (update.changed s n i w) after n p.answer p.store
      (λ none. holds_sound _ _ _ (updated_holds s n i w (shown s n) (sound_holds s n none.0 h) (leb-false _ _ none.1.0)))
      h

  pub new_again_sound : {ws : List ℕ} {r : Result ℕ Refusal} {after : Store} → new.Promise s ws r after → Sound after (count_left (λ m. m) (tells r) n)
  unfolding new.rule
  new_again_sound {ws} {r} {after} p =
      keeps (new.refusals s ws) (length ws) (λ m. m) (tells r) s (new.changed s ws) after n p.answer p.store
      (λ none. holds_sound _ _ _ (made_holds s ws none.0))
      h

-- the whole-store check says yes exactly when the store is sound
all_below_lem : (s : Store) (n k : ℕ) → sound_all s n (indexes_below k) ≡ true → (i : ℕ) → i < k → sound_at s n i ≡ true
all_below_lem s n zero e i h = absurd (omega arith)
all_below_lem s n (suc k) e i h =
    let parts = sound_head s n k _ e in
    grind (arith, parts.0, all_below_lem s n k parts.1 i)

below_all : (s : Store) (n k : ℕ) → ((i : ℕ) → i < k → sound_at s n i ≡ true) → sound_all s n (indexes_below k) ≡ true
below_all s n zero h = sound_none s n _ refl
below_all s n (suc k) h = sound_cons s n k _ (h k (omega arith)) ∙ below_all s n k (λ i q. h i (omega arith))

pub is_sound_means : {s : Store} {n : ℕ} {r : Result Bool Refusal} → bad_count s n ≡ false → is_sound.Promise s n r → (r ≡ Ok true) ↔ Sound s n
unfolding is_sound.rule
is_sound_means {s} {n} {r} g p = (λ e. from (sym p.answer ∙ ap tells e), λ h. to h)
  where
    from : is_sound.rule s n ≡ gave true → Sound s n
    from e i k = test_sound s n i (all_below_lem s n n (given_means (is_sound.refusals s n) (sound_all s n (indexes_below n)) true e).1 i k)

    to : Sound s n → r ≡ Ok true
    to h =
        let all = below_all s n n (λ i k. sound_test s n i (h i k)) in
        answer_determined r (Ok true) (p.answer ∙ rw (g, all)) refl
