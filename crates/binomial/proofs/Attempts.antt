-- One attempt: how it goes a step at a time, that the bound on its steps cuts nothing off, and that it ends at n at most. And how many
-- attempts are made until one ends. Assumes nothing.
use Rattle.std.proofs.Common.{◌≡◌, refl, sym, ◌∙◌, Bool, true, false, true≢false, cond, ◌⊎◌, inl, inr, List, length, get_or, ◌||◌, ℕ, zero, suc, ◌+◌, ◌-◌, ◌≤◌, ◌<◌, arith, le-ltb, ltb-false, ltb-true, ltb}
use lib.Ieee.{Float, binary64, sub, lt}
use Rattle.words.specs.First.{first}
use Rattle.words.proofs.First.{NonePasses, IsFirst, first_means}
use Rattle.std.specs.Prelude.{min, Option, Some, None}
use Rattle.binomial.specs.declared.Binv.{Binv}
use Rattle.binomial.specs.Attempt.{too_far, next_r, attempt_from, attempt_of}

-- ---- where it gives up
not_too_far : (n x : ℕ) → too_far n x ≡ false → (x ≤ 110) × (x ≤ n)
not_too_far n x e = go (ltb 110 x) refl e
  where
    go : (t : Bool) → ltb 110 x ≡ t → (t || ltb n x) ≡ false → (x ≤ 110) × (x ≤ n)
    go true q f = absurd (let z : ◌≡◌ {A = ℕ} 0 1 = cc in omega arith)
    go false q f = (ltb-false 110 x q, ltb-false n x f)

-- ---- a step, where so many are left as x is from n and 110
module _ (b : Binv) (x : ℕ) (u r : Float) (above : Bool) where
  pub attempt_ends : (steps k : ℕ) → steps ≡ suc k → above ≡ false → attempt_from steps b x u r above ≡ Some x
  unfolding attempt_from
  attempt_ends steps k s e = simp (s, e)

  abbrev after_step : ℕ → Option ℕ
  after_step k = attempt_from k b (x + 1) (sub binary64 u r) (next_r b (x + 1) r) (lt (next_r b (x + 1) r) (sub binary64 u r))

  -- the last step gives up
  given_up : (k : ℕ) (t : Bool) → k ≡ 0 → cond t None (after_step k) ≡ after_step k
  unfolding attempt_from
  given_up k true n = simp n
  given_up k false n = refl

  pub attempt_goes_on : (steps k : ℕ) → steps ≡ suc k → k ≡ min b.n 110 - x → above ≡ true → attempt_from steps b x u r above ≡ after_step k
  unfolding attempt_from
  attempt_goes_on steps k s q e = simp (s, e) (go (ltb x (min b.n 110)) refl)
    where
      go : (t : Bool) → ltb x (min b.n 110) ≡ t → cond (too_far b.n (x + 1)) None (after_step k) ≡ after_step k
      go true h =
          let near = ltb-true x (min b.n 110) h in
          simp (le-ltb 110 (x + 1) (omega arith), le-ltb b.n (x + 1) (omega arith))
      go false h = given_up k (too_far b.n (x + 1)) (omega (arith, ltb-false x (min b.n 110) h))

  pub attempt_gives_up : (steps : ℕ) → steps ≡ 1 → min b.n 110 ≡ x → above ≡ true → attempt_from steps b x u r above ≡ None
  unfolding attempt_from
  attempt_gives_up steps s q e = attempt_goes_on steps 0 s (omega arith) e

-- ---- the bound
attempt_enough : (steps more : ℕ) (b : Binv) (x : ℕ) (u r : Float) (above : Bool) → (x ≤ 110) × (x ≤ b.n) → min b.n 110 < x + steps → min b.n 110 < x + more → attempt_from steps b x u r above ≡ attempt_from more b x u r above
unfolding attempt_from
attempt_enough zero more b x u r above h i j = absurd (omega arith)
attempt_enough (suc steps) zero b x u r above h i j = absurd (omega arith)
attempt_enough (suc steps) (suc more) b x u r false h i j = refl
attempt_enough (suc steps) (suc more) b x u r true h i j =
    let u' = sub binary64 u r in
    let r' = next_r b (x + 1) r in
    go (too_far b.n (x + 1)) refl (λ k. attempt_enough steps more b (x + 1) u' r' (lt r' u') k (omega arith) (omega arith))
  where
    go : (t : Bool) → too_far b.n (x + 1) ≡ t → {one two : Option ℕ} → ((x + 1 ≤ 110) × (x + 1 ≤ b.n) → one ≡ two) → cond t None one ≡ cond t None two
    go true e f = refl
    go false e f = f (not_too_far b.n (x + 1) e)

-- an attempt that may take as many steps as it is to n and 110, or more, comes to the same
pub attempt_bounded : (steps : ℕ) (b : Binv) (u : Float) → min b.n 110 < steps → attempt_from steps b 0 u b.r (lt b.r u) ≡ attempt_of b u
attempt_bounded steps b u h = attempt_enough steps 111 b 0 u b.r (lt b.r u) (omega arith, omega arith) (omega arith) (omega arith)

pub attempt_unbounded : (steps : ℕ) (b : Binv) (u : Float) → 111 ≤ steps → attempt_from steps b 0 u b.r (lt b.r u) ≡ attempt_of b u
attempt_unbounded steps b u h = attempt_bounded steps b u (omega arith)

-- ---- where an attempt can end
ends_within : (steps : ℕ) (b : Binv) (x : ℕ) (u r : Float) (above : Bool) (y : ℕ) → (x ≤ 110) × (x ≤ b.n) → attempt_from steps b x u r above ≡ Some y → (y ≤ 110) × (y ≤ b.n)
unfolding attempt_from
ends_within zero b x u r above y h e = absurd (let z : ◌≡◌ {A = ℕ} 0 1 = cc in omega arith)
ends_within (suc steps) b x u r false y h e = let z : x ≡ y = cc in (omega arith, omega arith)
ends_within (suc steps) b x u r true y h e =
    let u' = sub binary64 u r in
    let r' = next_r b (x + 1) r in
    go (too_far b.n (x + 1)) refl (attempt_from steps b (x + 1) u' r' (lt r' u')) (ends_within steps b (x + 1) u' r' (lt r' u') y) e
  where
    go : (t : Bool) → too_far b.n (x + 1) ≡ t → (later : Option ℕ) → ((x + 1 ≤ 110) × (x + 1 ≤ b.n) → later ≡ Some y → (y ≤ 110) × (y ≤ b.n)) → cond t None later ≡ Some y → (y ≤ 110) × (y ≤ b.n)
    go true q later f k = absurd (let z : ◌≡◌ {A = ℕ} 0 1 = cc in omega arith)
    go false q later f k = f (not_too_far b.n (x + 1) q) k

pub attempt_within : (b : Binv) (u : Float) (x : ℕ) → attempt_of b u ≡ Some x → (x ≤ 110) × (x ≤ b.n)
attempt_within b u x e = ends_within 111 b 0 u b.r (lt b.r u) x (omega arith, omega arith) e

-- ---- the attempts made
-- the first word that passes is the one that passes with none before it
pub first_at : (test : ℕ → Bool) (pool : List ℕ) (i : ℕ) → i < length pool → ((k : ℕ) → k < i → test (get_or pool k 0) ≡ false) → test (get_or pool i 0) ≡ true → first test pool ≡ i + 1
first_at test pool i inside before passes = go (first_means test pool)
  where
    same : (j : ℕ) → IsFirst test pool j → (a b : Bool) → ltb j i ≡ a → ltb i j ≡ b → j ≡ i
    same j f true b p q = absurd (true≢false (sym f.passes ∙ before j (ltb-true j i p)))
    same j f false true p q = absurd (true≢false (sym passes ∙ f.before i (ltb-true i j q)))
    same j f false false p q = omega (arith, ltb-false j i p, ltb-false i j q)

    go : (((first test pool ≡ 0) × NonePasses test pool) ⊎ ((j : ℕ) × (first test pool ≡ suc j) × IsFirst test pool j)) → first test pool ≡ i + 1
    go (inl m) = absurd (true≢false (sym passes ∙ m.1 i inside))
    go (inr m) = omega (arith, m.1, same m.0 m.2 (ltb m.0 i) (ltb i m.0) refl refl)
