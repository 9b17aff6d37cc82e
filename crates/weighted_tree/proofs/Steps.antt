-- The walk by target, a step at a time; and that it ends by its own test: its last cell satisfies neither branch, whatever bound the
-- definition has, since each cell that it goes to holds something and so lies below the count. And a draw, which walks with the target that its
-- words give. Assumes nothing.
use Rattle.std.proofs.Common.{ℕ, zero, suc, pred, ◌+◌, ◌*◌, ◌-◌, ◌≤◌, ◌<◌, arith, Bool, true, false, cond, ◌≡◌, refl, sym, ap, ◌∙◌, List, [], ◌∷◌, lt-ltb, le-ltb, ltb-true, ltb-false, ne_eqb, ltb, eqb}
use Rattle.refusal.proofs.Draws.{draws}
use Rattle.refusal.specs.Outcome.{Outcome, gave, refused, Exactly}
use Rattle.refusal.specs.Answers.{tells, drawing}
use Rattle.refusal.specs.declared.Drawing.{Drawing}
use Rattle.refusal.specs.Number.{number}
use Rattle.refusal.proofs.Order.{given_not_refused, given_same, once, refuses}
use Rattle.words.specs.Below as below
use Rattle.words.specs.Below.{place, target}
use Rattle.words.proofs.Place.{taken_means}
use Rattle.weighted_tree.specs.Store.{Store, cell_at, total, sound_at}
use Rattle.weighted_tree.specs.Step.{step_from}
use Rattle.weighted_tree.specs.declared.step.Step.{Step}
use Rattle.weighted_tree.specs.declared.step.Step.TheVariants.{Left, Right, Here}
use Rattle.weighted_tree.specs.Path.{sound_all}
use Rattle.weighted_tree.specs.Tests.{bad_count, damaged}
use Rattle.weighted_tree.specs.Draw as draw
use Rattle.weighted_tree.specs.Walk.{visited, walk_end, walk_path, last_of}
use Rattle.weighted_tree.proofs.Cells.{cell_some, sound_is}
use Rattle.std.specs.Prelude.{Option, Some, None, Result, Ok, Err}
use Rattle.refusal.specs.declared.Refusal.{Refusal}

-- the step from cell i
abbrev pub step_at : Store → ℕ → ℕ → ℕ → Option Step
step_at s n i t = step_from (cell_at s n i) (cell_at s n (2 * i + 1)) (cell_at s n (2 * i + 2)) t

pub step_at_lem : (s : Store) (n i t a l r : ℕ) (x : Option Step) → a ≡ cell_at s n i → l ≡ cell_at s n (2 * i + 1) → r ≡ cell_at s n (2 * i + 2) → x ≡ step_from a l r t → x ≡ step_at s n i t
step_at_lem s n i t a l r x p q u e = e ∙ rw (p, q, u)

-- where the walk from cell i ends
abbrev pub end_from : Store → ℕ → ℕ → ℕ → ℕ → Outcome ℕ
end_from s n f i t = walk_end s n (visited s n f i t)

-- a sound cell before others that a walk visits changes nothing
before : (s : Store) (n i : ℕ) (f j u : ℕ) → 0 < f → sound_at s n i ≡ true → walk_end s n (i ∷ visited s n f j u) ≡ end_from s n f j u
unfolding walk_end damaged sound_all visited
before s n i zero j u h e = absurd (omega arith)
before s n i (suc f) j u h e = rw e

-- what a step says of the cell and the target
data Stepped (s : Store) (n i t : ℕ) : Option Step → Type 0 where
  unsound : sound_at s n i ≡ false → Stepped s n i t None
  left : sound_at s n i ≡ true → t < cell_at s n (2 * i + 1) → Stepped s n i t (Some Left)
  right : sound_at s n i ≡ true → cell_at s n (2 * i + 1) ≤ t → t - cell_at s n (2 * i + 1) < cell_at s n (2 * i + 2) → Stepped s n i t (Some (Right (t - cell_at s n (2 * i + 1))))
  here : sound_at s n i ≡ true → cell_at s n (2 * i + 1) ≤ t → cell_at s n (2 * i + 2) ≤ t - cell_at s n (2 * i + 1) → Stepped s n i t (Some Here)

stepped : (s : Store) (n i t : ℕ) → Stepped s n i t (step_at s n i t)
stepped s n i t = rw (← sound_is s n i) (go (sound_at s n i) refl (ltb t (cell_at s n (2 * i + 1))) refl (ltb (t - cell_at s n (2 * i + 1)) (cell_at s n (2 * i + 2))) refl)
  where
    go : (a : Bool) → sound_at s n i ≡ a → (b : Bool) → ltb t (cell_at s n (2 * i + 1)) ≡ b → (d : Bool) → ltb (t - cell_at s n (2 * i + 1)) (cell_at s n (2 * i + 2)) ≡ d
        → Stepped s n i t (cond a (Some (cond b Left (cond d (Right (t - cell_at s n (2 * i + 1))) Here))) None)
    go false e b p d q = unsound e
    go true e true p d q = left e (ltb-true _ _ p)
    go true e false p true q = right e (ltb-false _ _ p) (ltb-true _ _ q)
    go true e false p false q = here e (ltb-false _ _ p) (ltb-false _ _ q)

-- ---- a walk under way: the whole walk ends as the walk from cell i with the target t does, and there are steps left for each cell above i
pub record Walking (s : Store) (n target i t : ℕ) : Type 0 where
  pub inside : i < n
  pub left : ℕ
  pub enough : n ≤ left + i
  pub same : end_from s n n 0 target ≡ end_from s n left i t

module _ (s : Store) (n target : ℕ) where
  pub walking_begin : 0 < n → Walking s n target 0 target
  walking_begin h = record { inside = h; left = n; enough = omega arith; same = refl }

  module _ (i t : ℕ) (w : Walking s n target i t) where
    end_unsound : (f : ℕ) → 0 < f → sound_at s n i ≡ false → end_from s n f i t ≡ refused 13
    unfolding walk_end damaged sound_all visited
    end_unsound zero h e = absurd (omega arith)
    end_unsound (suc f) h e = rw e

    end_left : (f : ℕ) → 0 < pred f → sound_at s n i ≡ true → t < cell_at s n (2 * i + 1) → end_from s n f i t ≡ end_from s n (pred f) (2 * i + 1) t
    unfolding visited
    end_left zero h e p = absurd (omega arith)
    end_left (suc f) h e p = rw (lt-ltb t (cell_at s n (2 * i + 1)) p) (before s n i f _ _ h e)

    end_right : (f : ℕ) → 0 < pred f → sound_at s n i ≡ true → cell_at s n (2 * i + 1) ≤ t → t - cell_at s n (2 * i + 1) < cell_at s n (2 * i + 2) → end_from s n f i t ≡ end_from s n (pred f) (2 * i + 2) (t - cell_at s n (2 * i + 1))
    unfolding visited
    end_right zero h e p q = absurd (omega arith)
    end_right (suc f) h e p q =
        rw (le-ltb t (cell_at s n (2 * i + 1)) p, lt-ltb (t - cell_at s n (2 * i + 1)) (cell_at s n (2 * i + 2)) q)
        (before s n i f _ _ h e)

    end_here : (f : ℕ) → 0 < f → sound_at s n i ≡ true → cell_at s n (2 * i + 1) ≤ t → cell_at s n (2 * i + 2) ≤ t - cell_at s n (2 * i + 1) → end_from s n f i t ≡ gave i
    unfolding walk_end damaged sound_all visited
    end_here zero h e p q = absurd (omega arith)
    end_here (suc f) h e p q =
        rw (e, le-ltb t (cell_at s n (2 * i + 1)) p, le-ltb (t - cell_at s n (2 * i + 1)) (cell_at s n (2 * i + 2)) q)

    -- what follows from where the step goes
    abbrev pub After : Option Step → Type 0
    After None = refused 13 ≡ end_from s n n 0 target
    After (Some Left) = Walking s n target (2 * i + 1) t
    After (Some (Right rest)) = Walking s n target (2 * i + 2) rest
    After (Some Here) = gave i ≡ end_from s n n 0 target

    pub walking : (x : Option Step) → x ≡ step_at s n i t → After x
    walking x e = rw e (go (stepped s n i t))
      where
        go : {y : Option Step} → Stepped s n i t y → After y
        go (unsound a) = sym (w.same ∙ end_unsound w.left (omega arith) a)
        go (left a p) =
            let more : 2 * i + 1 < n = cell_some s n (2 * i + 1) (omega arith) in
            record { inside = more; left = pred w.left; enough = omega arith; same = w.same ∙ end_left w.left (omega arith) a p }
        go (right a p q) =
            let more : 2 * i + 2 < n = cell_some s n (2 * i + 2) (omega arith) in
            record { inside = more; left = pred w.left; enough = omega arith; same = w.same ∙ end_right w.left (omega arith) a p q }
        go (here a p q) = sym (w.same ∙ end_here w.left (omega arith) a p q)

-- ---- the rule of the walk with no bound
pub data Goes (s : Store) (n : ℕ) : ℕ → ℕ → List ℕ → Type 0 where
  stops : {i t : ℕ} → cell_at s n (2 * i + 1) ≤ t → cell_at s n (2 * i + 2) ≤ t - cell_at s n (2 * i + 1) → Goes s n i t (i ∷ [])
  goes_left : {i t : ℕ} {path : List ℕ} → t < cell_at s n (2 * i + 1) → Goes s n (2 * i + 1) t path → Goes s n i t (i ∷ path)
  goes_right : {i t : ℕ} {path : List ℕ} → cell_at s n (2 * i + 1) ≤ t → t - cell_at s n (2 * i + 1) < cell_at s n (2 * i + 2) → Goes s n (2 * i + 2) (t - cell_at s n (2 * i + 1)) path → Goes s n i t (i ∷ path)

goes : (s : Store) (n f i t : ℕ) → i < n → n ≤ f + i → Goes s n i t (visited s n f i t)
unfolding visited
goes s n zero i t h k = absurd (omega arith)
goes s n (suc f) i t h k =
    go (ltb t (cell_at s n (2 * i + 1))) refl (ltb (t - cell_at s n (2 * i + 1)) (cell_at s n (2 * i + 2))) refl
    (λ more. goes s n f (2 * i + 1) t more (omega arith))
    (λ more. goes s n f (2 * i + 2) (t - cell_at s n (2 * i + 1)) more (omega arith))
  where
    go : (b : Bool) → ltb t (cell_at s n (2 * i + 1)) ≡ b → (d : Bool) → ltb (t - cell_at s n (2 * i + 1)) (cell_at s n (2 * i + 2)) ≡ d
        → (2 * i + 1 < n → Goes s n (2 * i + 1) t (visited s n f (2 * i + 1) t))
        → (2 * i + 2 < n → Goes s n (2 * i + 2) (t - cell_at s n (2 * i + 1)) (visited s n f (2 * i + 2) (t - cell_at s n (2 * i + 1))))
        → Goes s n i t (i ∷ cond b (visited s n f (2 * i + 1) t) (cond d (visited s n f (2 * i + 2) (t - cell_at s n (2 * i + 1))) []))
    go true p d q l r = let h = ltb-true _ _ p in goes_left h (l (cell_some s n (2 * i + 1) (omega arith)))
    go false p true q l r =
        let h = ltb-true _ _ q in
        goes_right (ltb-false _ _ p) h (r (cell_some s n (2 * i + 2) (omega arith)))
    go false p false q l r = stops (ltb-false _ _ p) (ltb-false _ _ q)

-- the walk of a tree that is not empty follows it to the end
pub walk_unbounded : (s : Store) (n t : ℕ) → 0 < n → Goes s n 0 t (walk_path s n t)
walk_unbounded s n t h = goes s n n 0 t h (omega arith)

-- ---- a draw
-- the index that a walk ended at, with the words that its target took
abbrev pub with_words : Result ℕ Refusal → ℕ → Outcome (ℕ × ℕ)
with_words (Ok i) k = gave (i, k)
with_words (Err r) k = refused (number r)

ends_with : (b : Bool) (l k : ℕ) (o : Result ℕ Refusal) → tells o ≡ cond b (refused 13) (gave l) → with_words o k ≡ cond b (refused 13) (gave (l, k))
ends_with true l k (Ok i) e = absurd (given_not_refused _ _ e)
ends_with true l k (Err r) e = let same : number r ≡ 13 = cc in ap refused same
ends_with false l k (Ok i) e = ap (λ (x : ℕ). gave (x, k)) (given_same _ _ e)
ends_with false l k (Err r) e = absurd (given_not_refused _ _ (sym e))

module _ (s : Store) (n : ℕ) (pool : List ℕ) where
  pub drawn_refused : (r : Refusal) → once (number r) (draw.refusals s n pool) ≡ true → Exactly (number r) (draw.refusals s n pool) → tells {A = ℕ × ℕ} (Err r) ≡ draw.drawn s n pool
  unfolding draw.drawn
  drawn_refused r o x = sym ((refuses (draw.refusals s n pool) (last_of 0 (draw.draw_path s n pool), place (total s n) pool) (number r) o).1 x)

  module _ (good : bad_count s n ≡ false) (T : ℕ) (is : T ≡ total s n) (some : T ≡ 0 → ⊥) where
    -- the target's one refusal is the draw's
    pub drawn_nothing : (r : Refusal) → below.Promise pool T (Err r) → (number r ≡ 12) × (tells {A = ℕ × ℕ} (Err r) ≡ draw.drawn s n pool)
    unfolding below.rule draw.drawn
    drawn_nothing r p = rw (good, ← is, ne_eqb T 0 some) (go _ (eqb (place T pool) 0) refl p.answer)
      where
        go : (o : Outcome (ℕ × ℕ)) (b : Bool) → eqb (place T pool) 0 ≡ b
            → ◌≡◌ {A = Outcome (ℕ × ℕ)} (refused (number r)) (cond b (refused 12) (gave (target T pool, place T pool)))
            → (number r ≡ 12) × ◌≡◌ {A = Outcome (ℕ × ℕ)} (refused (number r)) (cond (eqb (place T pool) 0) (refused 12) o)
        go o true e q = (cc, rw e q)
        go o false e q = absurd (given_not_refused _ _ (sym q))

    -- where a word was accepted, the draw ends as the walk with its target does
    pub drawn_walk : (t k : ℕ) → below.Promise pool T (Ok (t, k)) → (o : Result ℕ Refusal) → tells o ≡ walk_end s n (walk_path s n t) → with_words o k ≡ draw.drawn s n pool
    unfolding draw.drawn walk_end
    drawn_walk t k p o e =
        let took = taken_means T pool t k p in
        rw (good, ← is, ne_eqb T 0 some, took.1, took.0, ne_eqb k 0 took.2) (ends_with (damaged s n (walk_path s n t)) _ k o e)

-- ---- a draw with its words beside it
pub draw_is : (s : Store) (n : ℕ) (pool : List ℕ) (o : Result (ℕ × ℕ) Refusal) → tells o ≡ draw.drawn s n pool → (d : Drawing) → d ≡ drawing o → draw.Promise s n pool d
unfolding draw.drawn draw.rule
draw_is s n pool o e d h =
    let is = draws (draw.refusals s n pool) (last_of 0 (draw.draw_path s n pool)) (place (total s n) pool) o e d h in
    record { answer = is.0; words = is.1 }
