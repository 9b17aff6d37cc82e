-- The three floats of a word: what the bits of 1 or 2 with 52 bits added are worth, and what the subtraction then leaves. So the exact values of the
-- unit and of the two u, for every word. Assumes nothing.
use Rattle.std.proofs.Common.{◌≡◌, ℕ, ◌+◌, ◌-◌, ◌*◌, ◌^◌, ◌<◌, ◌≤◌, Bool, true, false, cond, not, T, ltb, sym, refl, ap, ◌∙◌, mul_assoc, arith, ltb→lt, nltb→le, pow_pos, pow-add, le-ltb, lt-ltb}
use lib.Ieee.{binary64, sub, of_bits}
use lib.Ieee.Exact.{HasValue}
use Rattle.words.specs.Floats.{Exact, top_bits, over, unit, symmetric_u, one_sided_u}
use Rattle.words.proofs.Value.{rescale, over_is, less_from, less_below, pattern}

-- ---- the floats that a word's bits are put into
-- from 1 up to 2, in steps of 2^-52
from_one : (k : ℕ) → k < 2 ^ 52 → HasValue (of_bits binary64 (0x3ff0_0000_0000_0000 + k)) false (2 ^ 52 + k) (2 ^ 52)
from_one k h =
    rescale (of_bits binary64 (0x3ff0_0000_0000_0000 + k)) false ((2 ^ 52 + k) * 2 ^ 1022) (2 ^ 1074) (2 ^ 52 + k) (2 ^ 52) (pow_pos 1074)
    (ap (λ (z : ℕ). (2 ^ 52 + k) * z) (pow-add 2 1022 52) ∙ sym (mul_assoc (2 ^ 52 + k) (2 ^ 1022) (2 ^ 52)))
    (pattern (0x3ff0_0000_0000_0000 + k) 1022 k (omega arith) (omega arith) (omega arith) (omega arith))

-- from 2 up to 4, in steps of 2^-51
from_two : (k : ℕ) → k < 2 ^ 52 → HasValue (of_bits binary64 (0x4000_0000_0000_0000 + k)) false (2 ^ 52 + k) (2 ^ 51)
from_two k h =
    rescale (of_bits binary64 (0x4000_0000_0000_0000 + k)) false ((2 ^ 52 + k) * 2 ^ 1023) (2 ^ 1074) (2 ^ 52 + k) (2 ^ 51) (pow_pos 1074)
    (ap (λ (z : ℕ). (2 ^ 52 + k) * z) (pow-add 2 1023 51) ∙ sym (mul_assoc (2 ^ 52 + k) (2 ^ 1023) (2 ^ 51)))
    (pattern (0x4000_0000_0000_0000 + k) 1023 k (omega arith) (omega arith) (omega arith) (omega arith))

-- what is taken off: 1, 3, and 1 less 2^-53
one : HasValue (of_bits binary64 0x3ff0_0000_0000_0000) false (2 ^ 52) (2 ^ 52)
unfolding of_bits
one = (refl, refl)

three : HasValue (of_bits binary64 0x4008_0000_0000_0000) false (3 * 2 ^ 51) (2 ^ 51)
unfolding of_bits
three = (refl, refl)

below_one : HasValue (of_bits binary64 0x3fef_ffff_ffff_ffff) false (2 ^ 53 - 1) (2 ^ 53)
unfolding of_bits
below_one = (refl, refl)

-- ---- what the code computes is what the definitions say
module _ (w : ℕ) (h : w < 2 ^ 64) where
  abbrev k : ℕ
  k = top_bits 52 w

  fits_52 : k < 2 ^ 52
  fits_52 = omega arith

  pub unit_made : sub binary64 (of_bits binary64 (0x3ff0_0000_0000_0000 + k)) (of_bits binary64 0x3ff0_0000_0000_0000) ≡ unit w
  unit_made =
      let e : 2 ^ 52 + k - 2 ^ 52 ≡ k = omega arith in
      less_from _ _ (2 ^ 52 + k) (2 ^ 52) 52 (from_one k fits_52) one (omega arith) (omega arith) (omega arith)
      ∙ ap (λ (z : ℕ). over false z 52) e

  pub one_sided_u_made : sub binary64 (of_bits binary64 (0x3ff0_0000_0000_0000 + k)) (of_bits binary64 0x3fef_ffff_ffff_ffff) ≡ one_sided_u w
  one_sided_u_made =
      let x = of_bits binary64 (0x3ff0_0000_0000_0000 + k) in
      let v = rescale x false (2 ^ 52 + k) (2 ^ 52) (2 ^ 53 + 2 * k) (2 ^ 53) (pow_pos 52) (omega arith) (from_one k fits_52) in
      let e : 2 ^ 53 + 2 * k - (2 ^ 53 - 1) ≡ 2 * k + 1 = omega arith in
      less_from x _ (2 ^ 53 + 2 * k) (2 ^ 53 - 1) 53 v below_one (omega arith) (omega arith) (omega arith)
      ∙ ap (λ (z : ℕ). over false z 53) e

  pub symmetric_u_made : sub binary64 (of_bits binary64 (0x4000_0000_0000_0000 + k)) (of_bits binary64 0x4008_0000_0000_0000) ≡ symmetric_u w
  unfolding symmetric_u
  symmetric_u_made = go (ltb k (2 ^ 51)) (ltb→lt k (2 ^ 51)) (nltb→le k (2 ^ 51))
    where
      go : (b : Bool) → (T b → k < 2 ^ 51) → (T (not b) → 2 ^ 51 ≤ k)
          → sub binary64 (of_bits binary64 (0x4000_0000_0000_0000 + k)) (of_bits binary64 0x4008_0000_0000_0000)
          ≡ cond b (over true (2 ^ 51 - k) 51) (over false (k - 2 ^ 51) 51)
      go true i j =
          let l = i tt in
          let e : 3 * 2 ^ 51 - (2 ^ 52 + k) ≡ 2 ^ 51 - k = omega arith in
          less_below _ _ (2 ^ 52 + k) (3 * 2 ^ 51) 51 (from_two k fits_52) three (omega arith) (omega arith) (omega arith)
          ∙ ap (λ (z : ℕ). over true z 51) e
      go false i j =
          let l = j tt in
          let e : 2 ^ 52 + k - 3 * 2 ^ 51 ≡ k - 2 ^ 51 = omega arith in
          less_from _ _ (2 ^ 52 + k) (3 * 2 ^ 51) 51 (from_two k fits_52) three (omega arith) (omega arith) (omega arith)
          ∙ ap (λ (z : ℕ). over false z 51) e

  -- ---- the exact values, over whole numbers
  -- k / 2^52
  pub unit_is : Exact (unit w) false k (2 ^ 52)
  unit_is = over_is false k 52 (omega arith) (omega arith)

  -- (k - 2^51) / 2^51: negative below the middle, and plus zero at it
  pub symmetric_u_below : k < 2 ^ 51 → Exact (symmetric_u w) true (2 ^ 51 - k) (2 ^ 51)
  unfolding symmetric_u
  symmetric_u_below l = rw (lt-ltb k (2 ^ 51) l) (over_is true (2 ^ 51 - k) 51 (omega arith) (omega arith))

  pub symmetric_u_from : 2 ^ 51 ≤ k → Exact (symmetric_u w) false (k - 2 ^ 51) (2 ^ 51)
  unfolding symmetric_u
  symmetric_u_from l = rw (le-ltb k (2 ^ 51) l) (over_is false (k - 2 ^ 51) 51 (omega arith) (omega arith))

  -- (2k + 1) / 2^53
  pub one_sided_u_is : Exact (one_sided_u w) false (2 * k + 1) (2 ^ 53)
  one_sided_u_is = over_is false (2 * k + 1) 53 (omega arith) (omega arith)
