-- The numbers of BINV for n trials of the chance p.
use Rattle.std.specs.Prelude.{ℕ, zero, suc, ◌+◌, ◌%◌, ◌/◌, Bool, false, cond, eqb, pos, negsuc, Float}
use Rattle.std.specs.Float.{fin, binary64}
use Rattle.std.specs.Float.Ieee.{sub, mul, div, lt, of_int}
use Rattle.binomial.specs.declared.Binv.{Binv}

-- the floats 0, 0.5, 1 and 10
abbrev pub nought : Float
nought = fin false 0 (pos 0)

abbrev pub half : Float
half = fin false 1 (negsuc 0)

abbrev pub one : Float
one = fin false 1 (pos 0)

abbrev pub ten : Float
ten = fin false 5 (pos 1)

-- a whole number as a float
abbrev pub whole : ℕ → Float
whole n = of_int binary64 (pos n)

-- p above 0.5 is flipped to 1 - p
abbrev pub flipped : Float → Bool
flipped p = lt half p

abbrev pub smaller : Float → Float
smaller p = cond (flipped p) (sub binary64 one p) p

-- q = 1 - p
abbrev pub complement : Float → Float
complement p = sub binary64 one p

-- r so far is `made`, and the current power is `power`: for so many bits of n from the lowest up multiply by the current power where the bit is
-- set, squaring it after each
unfoldable pub power_from : ℕ → ℕ → Float → Float → Float
power_from zero n power made = made
power_from (suc bits) n power made =
    power_from bits (n / 2) (mul binary64 power power) (cond (eqb (n % 2) 1) (mul binary64 made power) made)

-- r is q to the power n: begin at 1. 64 bits are all that n has, and the number of them matters to nothing: `power_unbounded`.
abbrev pub power_of : Float → ℕ → Float
power_of q n = power_from 64 n q one

-- s = p / q, a = (n + 1) * s, for the smaller p
unfoldable pub binv_of : ℕ → Float → Binv
binv_of n p =
    let q = complement (smaller p) in
    let s = div binary64 (smaller p) q in
    record { r = power_of q n; s = s; a = mul binary64 (whole (n + 1)) s; n = n; flip = flipped p }
