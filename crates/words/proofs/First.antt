-- The first word that passes a test. How the search goes a word at a time; and what its place means: no word before it passes, the word at it does,
-- and there is none exactly when no word passes. By going through the pool. Assumes nothing.
use Rattle.std.proofs.Common.{◌≡◌, ℕ, zero, suc, ◌+◌, ◌-◌, ◌<◌, ◌≤◌, Bool, true, false, cond, ltb, ◌⊎◌, ◌↔◌, List, [], ◌∷◌, length, get_or, sym, refl, ap, ◌∙◌, inl, inr, arith, ltb-false, ltb-true}
use Rattle.std.specs.Prelude.{Option, Some, None, position}
use Rattle.std.specs.List.{position_from}
use Rattle.std.proofs.lemmas.Iterator.Adapters.{position_from-zero}
use Rattle.words.specs.First.{first_from, first}

-- the place behind so many words
abbrev pub place_of : Option ℕ → ℕ
place_of None = 0
place_of (Some skipped) = skipped + 1

module _ (test : ℕ → Bool) where
  -- ---- the library's search, which counts the words that it skips, by a test that passes the same words
  module _ (by : ℕ → Bool) (same : (w : ℕ) → by w ≡ test w) where
    after : (pool : List ℕ) (k : ℕ) → first_from test k pool ≡ place_of (position_from by k pool)
    unfolding first_from
    after [] k = refl
    after (w ∷ ws) k = rw (same w) (go (test w) (after ws (k + 1)))
      where
        go : (b : Bool) → first_from test (k + 1) ws ≡ place_of (position_from by (k + 1) ws) → cond b (k + 1) (first_from test (k + 1) ws) ≡ place_of (cond b (Some k) (position_from by (k + 1) ws))
        go true e = refl
        go false e = e

    pub first_by_position : (pool : List ℕ) → first test pool ≡ place_of (position by pool)
    first_by_position pool = after pool 0 ∙ ap place_of (sym (position_from-zero by pool))

  -- ---- what the place means
  abbrev pub NonePasses : List ℕ → Type 0
  NonePasses pool = (i : ℕ) → i < length pool → test (get_or pool i 0) ≡ false

  -- word j of the pool, counted from 0, is the first that passes
  pub record IsFirst (pool : List ℕ) (j : ℕ) : Type 0 where
    pub inside : j < length pool
    pub passes : test (get_or pool j 0) ≡ true
    pub before : (i : ℕ) → i < j → test (get_or pool i 0) ≡ false

  abbrev Means : ℕ → List ℕ → ℕ → Type 0
  Means k pool at = ((at ≡ 0) × NonePasses pool) ⊎ ((j : ℕ) × (at ≡ k + suc j) × IsFirst pool j)

  none_cons : (w : ℕ) (ws : List ℕ) → test w ≡ false → NonePasses ws → NonePasses (w ∷ ws)
  none_cons w ws e h zero k = e
  none_cons w ws e h (suc i) k = h i (omega arith)

  before_cons : (w : ℕ) (ws : List ℕ) (j : ℕ) → test w ≡ false → IsFirst ws j → (i : ℕ) → i < suc j → test (get_or (w ∷ ws) i 0) ≡ false
  before_cons w ws j e f zero k = e
  before_cons w ws j e f (suc i) k = f.before i (omega arith)

  means_cons : (k w : ℕ) (ws : List ℕ) (later : ℕ) → (b : Bool) → test w ≡ b → Means (k + 1) ws later → Means k (w ∷ ws) (cond b (k + 1) later)
  means_cons k w ws later true e m =
      inr (0, omega arith, record { inside = omega arith; passes = e; before = λ i h. absurd (omega arith) })
  means_cons k w ws later false e (inl m) = inl (m.0, none_cons w ws e m.1)
  means_cons k w ws later false e (inr m) =
      inr
      (suc m.0, m.1 ∙ omega arith, record { inside = omega (arith, m.2.inside); passes = m.2.passes; before = before_cons w ws m.0 e m.2 })

  means : (k : ℕ) (pool : List ℕ) → Means k pool (first_from test k pool)
  unfolding first_from
  means k [] = inl (refl, λ i h. absurd (omega arith))
  means k (w ∷ ws) = means_cons k w ws (first_from test (k + 1) ws) (test w) refl (means (k + 1) ws)

  module _ (pool : List ℕ) where
    -- the place is that of the first word that passes, or there is none
    pub first_means : ((first test pool ≡ 0) × NonePasses pool) ⊎ ((j : ℕ) × (first test pool ≡ suc j) × IsFirst pool j)
    first_means = go (means 0 pool)
      where
        go : Means 0 pool (first test pool) → ((first test pool ≡ 0) × NonePasses pool) ⊎ ((j : ℕ) × (first test pool ≡ suc j) × IsFirst pool j)
        go (inl m) = inl m
        go (inr m) = inr (m.0, m.1 ∙ omega arith, m.2)

    pub is_first : 0 < first test pool → IsFirst pool (first test pool - 1)
    is_first h = go first_means
      where
        go : (((first test pool ≡ 0) × NonePasses pool) ⊎ ((j : ℕ) × (first test pool ≡ suc j) × IsFirst pool j)) → IsFirst pool (first test pool - 1)
        go (inl m) = absurd (omega (arith, m.0))
        go (inr m) = let e : m.0 ≡ first test pool - 1 = omega (arith, m.1) in rw e at m.2

    pub first_in : first test pool ≤ length pool
    first_in = go (ltb 0 (first test pool)) refl
      where
        go : (b : Bool) → ltb 0 (first test pool) ≡ b → first test pool ≤ length pool
        go true e = omega (arith, (is_first (ltb-true 0 (first test pool) e)).inside)
        go false e = omega (arith, ltb-false 0 (first test pool) e)

    -- there is no place exactly when no word passes
    pub no_first : (first test pool ≡ 0) ↔ NonePasses pool
    no_first = (λ z. none z first_means, λ h. nowhere h first_means)
      where
        none : first test pool ≡ 0 → (((first test pool ≡ 0) × NonePasses pool) ⊎ ((j : ℕ) × (first test pool ≡ suc j) × IsFirst pool j)) → NonePasses pool
        none z (inl m) = m.1
        none z (inr m) = absurd (omega (arith, m.1))

        nowhere : NonePasses pool → (((first test pool ≡ 0) × NonePasses pool) ⊎ ((j : ℕ) × (first test pool ≡ suc j) × IsFirst pool j)) → first test pool ≡ 0
        nowhere h (inl m) = m.0
        nowhere h (inr m) = let z : ◌≡◌ {A = Bool} true false = sym m.2.passes ∙ h m.0 m.2.inside in absurd (let n : ◌≡◌ {A = ℕ} 0 1 = cc in omega arith)
