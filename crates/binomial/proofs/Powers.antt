-- A power by its bits: how it goes a bit at a time, and that the number of bits that are looked at cuts nothing off. Assumes nothing.
use Rattle.std.proofs.Common.{◌≡◌, refl, sym, ap, ◌∙◌, cond, ℕ, zero, suc, ◌/◌, ◌%◌, ◌^◌, ◌<◌, arith, eqb}
use native.Mathlib.Nat.{two-pow-succ}
use lib.Ieee.{Float, binary64, mul}
use Rattle.binomial.specs.Setup.{one, power_from, power_of}

-- where no bit is left, nothing is multiplied in
power_none : (bits : ℕ) (power made : Float) → power_from bits 0 power made ≡ made
unfolding power_from
power_none zero power made = refl
power_none (suc bits) power made = power_none bits (mul binary64 power power) made

pub power_done : (bits n : ℕ) (power made : Float) → n ≡ 0 → power_from bits n power made ≡ made
power_done bits n power made e = ap (λ (k : ℕ). power_from bits k power made) e ∙ power_none bits power made

halved : (bits n : ℕ) → 0 < n → n < 2 ^ bits → (fewer : ℕ) × (bits ≡ suc fewer) × (n / 2 < 2 ^ fewer)
halved zero n p h = absurd (let z : n < 1 = h in omega arith)
halved (suc bits) n p h = (bits, refl, (let t = two-pow-succ bits in omega arith))

-- one bit
pub power_step : (bits n : ℕ) (power made all : Float) → 0 < n → n < 2 ^ bits → power_from bits n power made ≡ all
    → (fewer : ℕ) × (n / 2 < 2 ^ fewer) × (power_from fewer (n / 2) (mul binary64 power power) (cond (eqb (n % 2) 1) (mul binary64 made power) made) ≡ all)
unfolding power_from
power_step bits n power made all p h e =
    let z = halved bits n p h in
    (z.0, z.2, sym (ap (λ (k : ℕ). power_from k n power made) z.1) ∙ e)

-- as many bits as n has, or more, give the same
power_enough : (bits more n : ℕ) (power made : Float) → n < 2 ^ bits → n < 2 ^ more → power_from bits n power made ≡ power_from more n power made
unfolding power_from
power_enough zero more n power made h k = let z : n < 1 = h in sym (power_done more n power made (omega arith))
power_enough (suc bits) zero n power made h k = let z : n < 1 = k in power_done (suc bits) n power made (omega arith)
power_enough (suc bits) (suc more) n power made h k =
    let t = two-pow-succ bits in
    let s = two-pow-succ more in
    power_enough bits more (n / 2) (mul binary64 power power) (cond (eqb (n % 2) 1) (mul binary64 made power) made) (omega arith) (omega arith)

pub power_unbounded : (bits n : ℕ) (q : Float) → n < 2 ^ 64 → n < 2 ^ bits → power_from bits n q one ≡ power_of q n
power_unbounded bits n q h k = power_enough bits 64 n q one k h
