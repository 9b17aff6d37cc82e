-- The first accepted word: which words are accepted, and what the place of the first says of the pool and of the target. From the laws of the first
-- word that passes a test. Assumes nothing.
use Rattle.std.proofs.Common.{◌≡◌, ℕ, zero, suc, ◌+◌, ◌-◌, ◌%◌, ◌^◌, ◌<◌, ◌≤◌, Bool, true, false, cond, eqb, ltb, List, length, get_or, sym, refl, ap, ◌∙◌, mod-lt, arith, lt-ltb, eq-eqb, ne_eqb}
use borrow.Author.Tests.{eqb-false}
use Rattle.refusal.specs.Outcome.{Outcome, gave, refused}
use Rattle.refusal.proofs.Order.{given_not_refused, given_same}
use Rattle.words.specs.Below as below
use Rattle.words.specs.Below.{accepts, place, target, rule}
use Rattle.std.specs.Prelude.{Option, Ok, Err, position}
use Rattle.refusal.specs.declared.Refusal.TheVariants.{OutOfWords}
use Rattle.words.proofs.First.{place_of, first_by_position, is_first, first_in, no_first}

-- ---- which words are accepted
pub accepts_yes : (T w : ℕ) → 0 < T → w < 2 ^ 64 - 2 ^ 64 % T → accepts T w ≡ true
unfolding accepts
accepts_yes T w h k = rw (lt-ltb 0 T h, lt-ltb w (2 ^ 64 - 2 ^ 64 % T) k)

pub accepts_as : (T w spilled : ℕ) → 0 < T → spilled ≡ 2 ^ 64 % T → accepts T w ≡ ltb w (2 ^ 64 - spilled)
unfolding accepts
accepts_as T w spilled h e = rw (lt-ltb 0 T h, e)

-- below no total there is nothing
pub accepts_none : (w : ℕ) → accepts 0 w ≡ false
unfolding accepts
accepts_none w = refl

-- where the remainder is 0, every word is accepted
pub accepts_every : (T w : ℕ) → 0 < T → 2 ^ 64 % T ≡ 0 → w < 2 ^ 64 → accepts T w ≡ true
accepts_every T w h e k = accepts_yes T w h (omega arith)

-- a word is accepted below some total only
pub accepts_some : (T w : ℕ) → accepts T w ≡ true → 0 < T
accepts_some zero w e = let z : ◌≡◌ {A = Bool} true false = sym e ∙ accepts_none w in absurd (let n : ◌≡◌ {A = ℕ} 0 1 = cc in omega arith)
accepts_some (suc T) w e = omega arith

-- ---- the place
pub place_none : (T : ℕ) (pool : List ℕ) → T ≡ 0 → place T pool ≡ 0
place_none T pool e = (no_first (accepts T) pool).1 (λ i h. rw e (accepts_none (get_or pool i 0)))

module _ (T : ℕ) (pool : List ℕ) where
  pub place_in : place T pool ≤ length pool
  place_in = first_in (accepts T) pool

  -- every word before the place is refused, the word at the place is accepted, and the target is below T
  pub place_before : (i : ℕ) → i + 1 < place T pool → accepts T (get_or pool i 0) ≡ false
  place_before i h = (is_first (accepts T) pool (omega arith)).before i (omega arith)

  pub place_at : 0 < place T pool → accepts T (get_or pool (place T pool - 1) 0) ≡ true
  place_at h = (is_first (accepts T) pool h).passes

  pub target_below : 0 < place T pool → target T pool < T
  target_below h = mod-lt _ (accepts_some T _ (place_at h))

  -- ---- what the function of this crate promises, by where its search ended
  pub searched : (o : Option ℕ) (spilled : ℕ) → (T ≡ 0 → ⊥) → spilled ≡ 2 ^ 64 % T → o ≡ position (λ w. ltb w (2 ^ 64 - spilled)) pool → place T pool ≡ place_of o
  searched o spilled h e q =
      first_by_position (accepts T) (λ w. ltb w (2 ^ 64 - spilled)) (λ w. sym (accepts_as T w spilled (omega arith) e)) pool
      ∙ ap place_of (sym q)

  pub nothing : place T pool ≡ 0 → below.Promise pool T (Err OutOfWords)
  unfolding rule
  nothing e = record { answer = rw (eq-eqb (place T pool) 0 e) }

  pub taken_at : (i : ℕ) → place T pool ≡ i + 1 → below.Promise pool T (Ok (get_or pool i 0 % T, i + 1))
  unfolding rule
  taken_at i e =
      let one : i + 1 - 1 ≡ i = omega arith in
      record { answer = rw (e, ne_eqb (i + 1) 0 (omega arith), one) }

  -- and what a caller learns from it
  pub taken_means : (t k : ℕ) → below.Promise pool T (Ok (t, k)) → (place T pool ≡ k) × (target T pool ≡ t) × (k ≡ 0 → ⊥)
  unfolding rule
  taken_means t k p = go (eqb (place T pool) 0) refl p.answer
    where
      go : (b : Bool) → eqb (place T pool) 0 ≡ b → ◌≡◌ {A = Outcome (ℕ × ℕ)} (gave (t, k)) (cond b (refused 12) (gave (target T pool, place T pool))) → (place T pool ≡ k) × (target T pool ≡ t) × (k ≡ 0 → ⊥)
      go true e q = absurd (given_not_refused (t, k) 12 q)
      go false e q =
          let same = given_same (t, k) (target T pool, place T pool) q in
          let at : place T pool ≡ k = sym (ap (λ (x : ℕ × ℕ). x.1) same) in
          (at, sym (ap (λ (x : ℕ × ℕ). x.0) same), λ z. eqb-false _ _ e (at ∙ z))
