-- The pairs that draw an index, counted: those of its own slot, and those that other slots lend it. Where every index is drawn as often as its
-- weight says, the pairs that draw an index below n are all n times S, so no pair draws anything else. Assumes nothing.
use Prim.Native.Nat.{ℕ, zero, suc, ◌+◌, ◌-◌, ◌*◌, ◌<◌, ◌≤◌, min}
use native.Mathlib.Omega.{arith}
use mathlib.Core.Bool.{Bool, true, false, cond, ◌&&◌}
use mathlib.Core.Path.{◌≡◌, refl, sym, ap, ◌∙◌}
use mathlib.Core.List.{List}
use borrow.Author.Tests.{lt-ltb, eq-eqb, ne_eqb, eqb-true, eqb-false, ltb-true, ltb-false}
use lib.Dec.{ltb, eqb}
use lib.ListN.{length, get_or}
use Rattle.counting.specs.Sum.{sum_of}
use Rattle.counting.specs.Below.{sum_below, how_many}
use Rattle.counting.proofs.Below.{sum_same, sum_two, sum_only, sum_times, sum_turned, sum_tight, sum_list, many_sorted, many_all, many_most, all_true, all_at}
use Rattle.weighted_alias.specs.Pair.{drawn_by}
use Rattle.alias_checker.specs.Shares.{lends, lent_below, lent}
use Rattle.alias_checker.specs.Check.{pairs_drawing, fair}

eqb_turned : (a b : ℕ) → eqb a b ≡ eqb b a
eqb_turned a b = go (eqb a b) refl
  where
    go : (t : Bool) → eqb a b ≡ t → eqb a b ≡ eqb b a
    go true e = e ∙ sym (eq-eqb b a (sym (eqb-true a b e)))
    go false e = e ∙ sym (ne_eqb b a (λ q. eqb-false a b e (sym q)))

-- ---- the numbers below S at which a slot c, of odds o and link l, draws i; own and other say whether c and l are i
step_own : (own other : Bool) (S o k : ℕ) → S < o → k ≡ cond own (min o S) 0 + cond other (S - o) 0 → k + cond own 1 0 ≡ cond own (min o (suc S)) 0 + cond other (suc S - o) 0
step_own true true S o k h e = omega arith
step_own true false S o k h e = omega arith
step_own false true S o k h e = omega arith
step_own false false S o k h e = omega arith

step_other : (own other : Bool) (S o k : ℕ) → o ≤ S → k ≡ cond own (min o S) 0 + cond other (S - o) 0 → k + cond other 1 0 ≡ cond own (min o (suc S)) 0 + cond other (suc S - o) 0
step_other true true S o k h e = omega arith
step_other true false S o k h e = omega arith
step_other false true S o k h e = omega arith
step_other false false S o k h e = omega arith

step_none : (own other : Bool) (o : ℕ) → 0 ≡ cond own (min o 0) 0 + cond other (0 - o) 0
step_none true true o = omega arith
step_none true false o = omega arith
step_none false true o = omega arith
step_none false false o = omega arith

slot_draws : (S o c l i : ℕ) → how_many S (λ t. eqb (cond (ltb t o) c l) i) ≡ cond (eqb c i) (min o S) 0 + cond (eqb l i) (S - o) 0
unfolding sum_below
slot_draws zero o c l i = step_none (eqb c i) (eqb l i) o
slot_draws (suc S) o c l i = go (ltb S o) refl (slot_draws S o c l i)
  where
    go : (b : Bool) → ltb S o ≡ b → how_many S (λ t. eqb (cond (ltb t o) c l) i) ≡ cond (eqb c i) (min o S) 0 + cond (eqb l i) (S - o) 0
        → how_many S (λ t. eqb (cond (ltb t o) c l) i) + cond (eqb (cond b c l) i) 1 0 ≡ cond (eqb c i) (min o (suc S)) 0 + cond (eqb l i) (suc S - o) 0
    go true e ih = step_own (eqb c i) (eqb l i) S o _ (ltb-true S o e) ih
    go false e ih = step_other (eqb c i) (eqb l i) S o _ (ltb-false S o e) ih

-- a slot with odds of S or more lends nothing, whatever its link
lends_as : (other : Bool) (S o : ℕ) → cond other (S - o) 0 ≡ cond (ltb o S && other) (S - o) 0
lends_as other S o = go (ltb o S) refl other
  where
    go : (b : Bool) → ltb o S ≡ b → (other : Bool) → cond other (S - o) 0 ≡ cond (b && other) (S - o) 0
    go true e other = refl
    go false e true = omega (arith, ltb-false o S e)
    go false e false = refl

module _ (odds links : List ℕ) (S : ℕ) where
  pub pairs_closed : (i : ℕ) → i < length odds → pairs_drawing odds links S i ≡ min (get_or odds i 0) S + lent odds links S i
  unfolding pairs_drawing drawn_by lent_below
  pairs_closed i h =
      sum_same (length odds) _ (λ c. cond (eqb i c) (min (get_or odds c 0) S) 0 + lends odds links S i c)
      (λ c l. slot_draws S (get_or odds c 0) c (get_or links c 0) i ∙ (rw (eqb_turned c i, lends_as (eqb (get_or links c 0) i) S (get_or odds c 0))))
      ∙ sum_two (length odds) (λ c. cond (eqb i c) (min (get_or odds c 0) S) 0) (lends odds links S i)
      ∙ ap (λ (x : ℕ). x + sum_below (length odds) (lends odds links S i)) (sum_only (length odds) i (λ c. min (get_or odds c 0) S) ∙ (rw (lt-ltb i (length odds) h)))

  -- the pairs that draw an index below n
  pairs_below : sum_below (length odds) (pairs_drawing odds links S) ≡ sum_below (length odds) (λ c. how_many S (λ t. ltb (drawn_by odds links c t) (length odds)))
  unfolding pairs_drawing
  pairs_below =
      sum_turned (length odds) (length odds) (λ i c. how_many S (λ t. eqb (drawn_by odds links c t) i))
      ∙ sum_same (length odds) _ _ (λ c l. many_sorted S (length odds) (λ t. drawn_by odds links c t))

-- ---- the judgement, and what it says of each pair
pub fair_counts : (ws odds links : List ℕ) → fair ws odds links ≡ true → (i : ℕ) → i < length ws → pairs_drawing odds links (sum_of ws) i ≡ length ws * get_or ws i 0
unfolding fair
fair_counts ws odds links e i h = eqb-true _ _ (all_at (length ws) (λ j. eqb (pairs_drawing odds links (sum_of ws) j) (length ws * get_or ws j 0)) e i h)

pub counts_fair : (ws odds links : List ℕ) → ((i : ℕ) → i < length ws → pairs_drawing odds links (sum_of ws) i ≡ length ws * get_or ws i 0) → fair ws odds links ≡ true
unfolding fair
counts_fair ws odds links h = all_true (length ws) (λ j. eqb (pairs_drawing odds links (sum_of ws) j) (length ws * get_or ws j 0)) (λ i l. eq-eqb _ _ (h i l))

-- a fair table draws nothing but indexes
pub fair_draws : (ws odds links : List ℕ) → length odds ≡ length ws → fair ws odds links ≡ true → (c t : ℕ) → c < length odds → t < sum_of ws → drawn_by odds links c t < length odds
fair_draws ws odds links long e c t hc ht =
    let each : sum_below (length odds) (pairs_drawing odds links (sum_of ws)) ≡ sum_below (length odds) (λ i. length ws * get_or ws i 0) = sum_same (length odds) _ _ (λ i l. fair_counts ws odds links e i (omega arith)) in
    let total : sum_below (length odds) (λ i. length ws * get_or ws i 0) ≡ length odds * sum_of ws = rw long (sum_times (length ws) (length ws) (λ i. get_or ws i 0) ∙ ap (λ (x : ℕ). length ws * x) (sum_list ws)) in
    let all : length odds * sum_of ws ≤ sum_below (length odds) (λ d. how_many (sum_of ws) (λ u. ltb (drawn_by odds links d u) (length odds))) = omega (arith, pairs_below odds links (sum_of ws)) in
    let slot = sum_tight (length odds) (sum_of ws) (λ d. how_many (sum_of ws) (λ u. ltb (drawn_by odds links d u) (length odds))) (λ d l. many_most (sum_of ws) (λ u. ltb (drawn_by odds links d u) (length odds))) all c hc in
    ltb-true _ _ (many_all (sum_of ws) (λ u. ltb (drawn_by odds links c u) (length odds)) (omega arith) t ht)
