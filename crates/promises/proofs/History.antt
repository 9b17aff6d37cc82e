-- A tree keeps its lottery: whatever calls get it as their store, refused ones included, it holds the weights as they were last given, and no
-- call is refused for a bad count or for damage. By what each call keeps, one call after the other. Assumes nothing.
use Prim.Native.Nat.{ℕ, ◌+◌, ◌-◌, ◌<◌}
use native.Mathlib.Omega.{arith}
use mathlib.Core.Bool.{Bool, true, not}
use mathlib.Core.Path.{◌≡◌, refl, sym, ap, ◌∙◌}
use mathlib.Core.List.{List, [], ◌∷◌}
use borrow.Author.Tests.{eqb-false, leb-false}
use lib.ListN.{length, get_or, take}
use Rattle.counting.specs.Sum.{sum_of}
use Rattle.counting.specs.Below.{how_many}
use Rattle.refusal.specs.Outcome.{Outcome, gave, refused, in_order, leaves, Exactly, None}
use Rattle.refusal.proofs.Order.{Ends, ends_given, ends_refused, ends, gives, given_means, refuses, once}
use Rattle.weighted_tree.specs.Store.{Store, total, weight_at}
use Rattle.weighted_tree.specs.Tests.{bad_count, damaged}
use Rattle.weighted_tree.specs.New as new
use Rattle.weighted_tree.specs.IsValid as is_valid
use Rattle.weighted_tree.specs.Get as get
use Rattle.weighted_tree.specs.Pop as pop
use Rattle.weighted_tree.specs.Push as push
use Rattle.weighted_tree.specs.Update as update
use Rattle.weighted_tree.specs.Walk as walk
use Rattle.weighted_tree.specs.Draw as draw
use Rattle.weighted_tree.specs.IsSound as is_sound
use Rattle.promises.specs.Tree.{count_left, Sound, Holds, answers}
use Rattle.promises.specs.History.{Call, making, pushing, popping, updating, validity, getting, walking, drawing, soundness, State, given, told, After, Step, Begun, History, NeverTold}
use Rattle.promises.proofs.Makes.{made_holds}
use Rattle.promises.proofs.Keeps.{all_sound, pushed_holds, popped_holds, updated_holds}
use Rattle.promises.proofs.Rows.{clash}
use Rattle.promises.proofs.Sound.{by_ends, holds_sound}
use Rattle.promises.proofs.Counts.{every_target_answered, answers_weight, total_is_sum}

abbrev HoldsNow : State → Type 0
HoldsNow t = Holds t.store t.count t.weights

-- ---- one call
-- what a call keeps, and the two numbers that it does not tell
pub record Kept (t : State) (number : ℕ) : Type 0 where
  pub holds : HoldsNow t
  pub counted_well : number ≡ 7 → ⊥
  pub undamaged : number ≡ 13 → ⊥

-- a call with some refusals, that would change the store so
module _ {A : Type 0} (c : Call) (rs : List (ℕ × Bool)) (v : A) (counted : A → ℕ) (changed : Store) (t t' : State) (k : ℕ) (o : Outcome A) (p : o ≡ in_order rs (gave v)) (a : After c o counted t k t') where
  keeps : t'.store ≡ leaves (in_order rs (gave v)) changed t.store → (None rs → Holds changed (counted v) (given c t.weights)) → HoldsNow t → HoldsNow t'
  keeps q f h =
      rw (a.count_is, a.weights_are, q, p)
      (by_ends rs v (λ o. Holds (leaves o changed t.store) (count_left counted o t.count) (leaves o (given c t.weights) t.weights)) f (λ j. h))

  -- a number whose test does not hold is not told
  untold : (j : ℕ) → 0 < j → once j rs ≡ true → (Exactly j rs → ⊥) → k ≡ j → ⊥
  untold j some one fails e = go (ends rs v)
    where
      go : Ends rs v → ⊥
      go (ends_given none q) = let zero : told o ≡ 0 = ap told (p ∙ q) in omega (arith, a.tells)
      go (ends_refused i q) = let same : told o ≡ i = ap told (p ∙ q) in fails ((refuses rs v j one).0 (q ∙ ap refused (let is : i ≡ j = omega (arith, a.tells) in is)))

  kept : t'.store ≡ leaves (in_order rs (gave v)) changed t.store → (None rs → Holds changed (counted v) (given c t.weights)) → HoldsNow t → once 7 rs ≡ true → (Exactly 7 rs → ⊥) → once 13 rs ≡ true → (Exactly 13 rs → ⊥) → Kept t' k
  kept q f h one good once_too sound =
      record { holds = keeps q f h; counted_well = untold 7 (omega arith) one good; undamaged = untold 13 (omega arith) once_too sound }

leaves_same : {A B : Type 0} (o : Outcome A) (x : B) → leaves o x x ≡ x
leaves_same (gave v) x = refl
leaves_same (refused k) x = refl

module _ (t : State) (h : HoldsNow t) where
  abbrev s : Store
  s = t.store

  abbrev n : ℕ
  n = t.count

  whole : (path : List ℕ) → damaged s n path ≡ true → ⊥
  unfolding damaged
  whole path e = clash _ e (ap not (all_sound s n h.sound path))

  miscounted : bad_count s n ≡ true → ⊥
  miscounted e = clash _ e h.good

  -- a call that reads leaves the store as it was
  reads : {A : Type 0} (c : Call) (rs : List (ℕ × Bool)) (v : A) (t' : State) (k : ℕ) (o : Outcome A) → given c t.weights ≡ t.weights → o ≡ in_order rs (gave v) → t'.store ≡ s
      → After c o (λ x. n) t k t' → once 7 rs ≡ true → (Exactly 7 rs → ⊥) → once 13 rs ≡ true → (Exactly 13 rs → ⊥) → Kept t' k
  reads c rs v t' k o same p q a =
      kept c rs v (λ x. n) s t t' k o p a (q ∙ sym (leaves_same (in_order rs (gave v)) s)) (λ none. rw same h) h

  popped : 0 < n → Holds (pop.changed s n) (n - 1) (take (length t.weights - 1) t.weights)
  popped some = rw h.long (popped_holds s n t.weights h some)

  pub step_keeps : (c : Call) (k : ℕ) (t' : State) → Step c t k t' → Kept t' k
  unfolding new.rule push.rule pop.rule update.rule is_valid.rule get.rule walk.rule draw.rule is_sound.rule
  step_keeps (making ws) k t' (r, p, a) =
      kept (making ws) (new.refusals s ws) (length ws) (λ m. m) (new.changed s ws) t t' k _ p.answer a p.store (λ none. made_holds s ws none.0) h refl (λ e. e.1.1) refl (λ e. e.1.1)
  step_keeps (pushing w) k t' (r, p, a) =
      kept (pushing w) (push.refusals s n w) (n + 1) (λ m. m) (push.changed s n w) t t' k _ p.answer a p.store (λ none. pushed_holds s n w t.weights h none.1.0) h refl miscounted refl (λ e. whole _ e.1.1)
  step_keeps popping k t' (r, p, a) =
      kept {A = ℕ × ℕ} popping (pop.refusals s n) (weight_at s n (n - 1), n - 1) (λ v. v.1) (pop.changed s n) t t' k _ p.answer a p.store (λ none. popped (omega (arith, eqb-false _ _ none.1.0))) h refl miscounted refl (λ e. whole _ e.1.1)
  step_keeps (updating i w) k t' (r, p, a) =
      kept (updating i w) (update.refusals s n i w) n (λ m. n) (update.changed s n i w) t t' k _ p.answer a p.store (λ none. updated_holds s n i w t.weights h (leb-false _ _ none.1.0)) h refl miscounted refl (λ e. whole _ e.1.1)
  step_keeps validity k t' (r, (p, q), a) = reads validity (is_valid.refusals s n) _ t' k _ refl p.answer q a refl miscounted refl (λ e. e.1)
  step_keeps (getting i) k t' (r, (p, q), a) = reads (getting i) (get.refusals s n i) _ t' k _ refl p.answer q a refl miscounted refl (λ e. whole _ e.1.1)
  step_keeps (walking x) k t' (r, (p, q), a) = reads (walking x) (walk.refusals s n x) _ t' k _ refl p.answer q a refl miscounted refl (λ e. whole _ e.1.1.1)
  step_keeps (drawing pool) k t' (r, (p, q), a) = reads (drawing pool) (draw.refusals s n pool) _ t' k _ refl p.answer q a refl miscounted refl (λ e. whole _ e.1.1.1)
  step_keeps soundness k t' (r, (p, q), a) = reads soundness (is_sound.refusals s n) _ t' k _ refl p.answer q a refl miscounted refl (λ e. e.1)

-- ---- a history
made_first : (t : State) → Begun t → HoldsNow t
unfolding new.rule
made_first t b =
    let m = given_means (new.refusals b.found t.weights) (length t.weights) t.count (sym b.promise.answer ∙ b.made) in
    rw (← m.1, b.promise.store, (gives (new.refusals b.found t.weights) (length t.weights)).1 m.0)
    (made_holds b.found t.weights m.0.0)

holds_on : (calls : List (Call × ℕ)) (t t' : State) → HoldsNow t → History t calls t' → HoldsNow t' × NeverTold 7 calls × NeverTold 13 calls
unfolding History
holds_on [] t t' h e = (rw (← e) h, tt, tt)
holds_on ((c, k) ∷ later) t t' h (u, step, rest) =
    let k' = step_keeps t h c k u step in
    let on = holds_on later u t' k'.holds rest in
    (on.0, (k'.counted_well, on.1), (k'.undamaged, on.2))

-- a making that was not refused, and any calls that get the tree as their store
module _ (t t' : State) (calls : List (Call × ℕ)) (b : Begun t) (past : History t calls t') where
  at_last : HoldsNow t'
  at_last = (holds_on calls t t' (made_first t b) past).0

  -- each index below the count answers exactly as many targets below the total as the weight last given to it
  pub tree_keeps_its_lottery : (i : ℕ) → i < t'.count → how_many (total t'.store t'.count) (λ x. answers (walk.rule t'.store t'.count x) i) ≡ get_or t'.weights i 0
  tree_keeps_its_lottery = answers_weight at_last

  -- there are as many weights as the count says
  pub as_many_weights : length t'.weights ≡ t'.count
  as_many_weights = at_last.long

  -- the store is sound
  pub sound_all_along : Sound t'.store t'.count
  sound_all_along = holds_sound t'.store t'.count t'.weights at_last

  -- the total is the sum of the weights
  pub total_of_weights : total t'.store t'.count ≡ sum_of t'.weights
  total_of_weights = total_is_sum at_last

  -- every target below the total is answered
  pub each_target_answered : (x : ℕ) → x < total t'.store t'.count → (i : ℕ) × (walk.rule t'.store t'.count x ≡ gave i) × (i < t'.count)
  each_target_answered = every_target_answered at_last

  -- no call was refused for a bad count, and none for damage
  pub never_7 : NeverTold 7 calls
  never_7 = (holds_on calls t t' (made_first t b) past).1

  pub never_13 : NeverTold 13 calls
  never_13 = (holds_on calls t t' (made_first t b) past).2
