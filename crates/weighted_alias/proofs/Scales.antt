-- Weights that are not too heavy for their number: n times each of them, and their sum, are u64, since n times the largest number allowed is one.
-- And n times each weight, written cell by cell. Assumes nothing.
use Prim.Native.Nat.{ℕ, zero, suc, ◌+◌, ◌*◌, ◌/◌, ◌<◌, ◌≤◌, ◌^◌}
use native.Mathlib.Omega.{arith}
use native.Mathlib.Nat.{mul-le-mul_right, mul-div-le, suc-mul, zero-mul, mul-zero, mul_comm}
use native.Mathlib.Numerals.{add-one}
use mathlib.Core.Bool.{true, false}
use mathlib.Core.Path.{◌≡◌, refl, sym, ap, ◌∙◌}
use mathlib.Core.List.{List, map}
use borrow.Author.Tests.{lt-ltb, le-ltb, eq-eqb, ne_eqb, ltb-false}
use lib.Dec.{ltb}
use lib.ListN.{length, get_or, take, get_or-map}
use Rattle.std.proofs.lemmas.List.{length-map}
use Rattle.counting.specs.Sum.{sum_of}
use Rattle.counting.specs.Below.{list_below}
use Rattle.counting.proofs.Sums.{sum_zero, sum_suc, sum_all}
use Rattle.counting.proofs.Below.{Next, earlier, latest, next, some_true, some_false, some_none, list_below_lem, Filled, filled_all}
use Rattle.refusal.specs.Outcome.{refused, gave}
use Rattle.weighted_alias.specs.Tests.{too_heavy}
use Rattle.weighted_alias.specs.WeightSum.{rule}
use Rattle.weighted_alias.specs.New.{scaled, Scales}

-- the largest weight that n slots can have
abbrev pub largest : ℕ → ℕ
largest n = 18446744073709551615 / n

-- ---- sums
front_most : (ws : List ℕ) (q i : ℕ) → i ≤ length ws → ((k : ℕ) → k < i → get_or ws k 0 ≤ q) → sum_of (take i ws) ≤ i * q
front_most ws q zero h most = omega (arith, sum_zero ws, zero-mul q)
front_most ws q (suc i) h most =
    let last : sum_of (take (suc i) ws) ≡ sum_of (take i ws) + get_or ws i 0 = rw (← add-one i) (sum_suc ws i (omega arith)) in
    omega (arith, suc-mul i q, most i (omega arith), front_most ws q i (omega arith) (λ k l. most k (omega arith)))

-- every weight so far is light enough, and the sum is that of these
pub record Summing (ws : List ℕ) (i sum : ℕ) : Type 0 where
  pub inside : i ≤ length ws
  pub so_far : sum ≡ sum_of (take i ws)
  pub light : (k : ℕ) → k < i → get_or ws k 0 ≤ largest (length ws)

pub summing_begins : (ws : List ℕ) → Summing ws 0 0
summing_begins ws = record { inside = omega arith; so_far = sym (sum_zero ws); light = λ k l. absurd (omega arith) }

module _ (ws : List ℕ) (i sum : ℕ) (k : Summing ws i sum) where
  pub summing_goes_on : i < length ws → get_or ws i 0 ≤ largest (length ws) → Summing ws (i + 1) (sum + get_or ws i 0)
  summing_goes_on h w =
      record { inside = omega arith; so_far = omega (arith, k.so_far, sum_suc ws i h); light = λ j l. at j (next j i (omega arith)) }
    where
      at : (j : ℕ) → Next j i → get_or ws j 0 ≤ largest (length ws)
      at j (earlier l) = k.light j l
      at j (latest e) = rw e w

  -- the sum so far is a u64
  pub sum_fits : sum < 2 ^ 64
  sum_fits =
      let most = front_most ws (largest (length ws)) i k.inside k.light in
      let all = mul-le-mul_right (largest (length ws)) k.inside in
      omega (arith, k.so_far, mul-div-le 18446744073709551615 (length ws))

  pub heavy_here : i < length ws → largest (length ws) < get_or ws i 0 → too_heavy ws ≡ true
  unfolding too_heavy
  heavy_here h w = some_true (length ws) (λ j. ltb (largest (length ws)) (get_or ws j 0)) i h (lt-ltb _ _ w)

  light_all : length ws ≤ i → too_heavy ws ≡ false
  unfolding too_heavy
  light_all h = some_false (length ws) (λ j. ltb (largest (length ws)) (get_or ws j 0)) (λ j l. le-ltb _ _ (k.light j (omega arith)))

  sum_is : length ws ≤ i → sum ≡ sum_of ws
  sum_is h = k.so_far ∙ sum_all ws i h

  pub sums_heavy : i < length ws → largest (length ws) < get_or ws i 0 → refused 2 ≡ rule ws
  unfolding rule
  sums_heavy h w = rw (heavy_here h w)

  pub sums_nothing : length ws ≤ i → sum ≡ 0 → refused 3 ≡ rule ws
  unfolding rule
  sums_nothing h e = rw (light_all h, eq-eqb (sum_of ws) 0 (sym (sum_is h) ∙ e))

  pub sums_something : length ws ≤ i → (sum ≡ 0 → ⊥) → gave sum ≡ rule ws
  unfolding rule
  sums_something h some = rw (light_all h, ← sum_is h, ne_eqb sum 0 some)

pub no_weights : (ws : List ℕ) → length ws ≡ 0 → refused 3 ≡ rule ws
no_weights ws e = sums_nothing ws 0 0 (summing_begins ws) (omega arith) refl

-- ---- n times each weight
pub not_heavy : (ws : List ℕ) → too_heavy ws ≡ false → Scales ws
unfolding too_heavy
not_heavy ws e i h =
    let w = ltb-false (largest (length ws)) (get_or ws i 0) (some_none (length ws) (λ j. ltb (largest (length ws)) (get_or ws j 0)) e i h) in
    let times = mul-le-mul_right (length ws) w in
    omega (arith, mul_comm (length ws) (get_or ws i 0), mul_comm (largest (length ws)) (length ws), mul-div-le 18446744073709551615 (length ws))

pub scaled_long : (ws : List ℕ) → length (scaled ws) ≡ length ws
unfolding scaled
scaled_long ws = length-map ws _

pub scaled_at : (ws : List ℕ) (i : ℕ) → get_or (scaled ws) i 0 ≡ length ws * get_or ws i 0
unfolding scaled
scaled_at ws i = ap (λ (d : ℕ). get_or (map (λ w. length ws * w) ws) i d) (sym (mul-zero (length ws))) ∙ get_or-map (λ w. length ws * w) ws i 0

pub scaled_is : (ws : List ℕ) → scaled ws ≡ list_below (length ws) (λ i. length ws * get_or ws i 0)
scaled_is ws = list_below_lem (length ws) (λ i. length ws * get_or ws i 0) (scaled ws) (scaled_long ws) (λ i h. scaled_at ws i)

pub scaled_all : (ws begun odds : List ℕ) (i : ℕ) → length begun ≡ length ws → Filled (λ k. length ws * get_or ws k 0) begun odds i → length ws ≤ i → odds ≡ scaled ws
scaled_all ws begun odds i long d h =
    filled_all (λ k. length ws * get_or ws k 0) begun odds i d (omega arith) ∙ rw long (sym (scaled_is ws))
