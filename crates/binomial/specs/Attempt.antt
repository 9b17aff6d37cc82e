-- One attempt of BINV: what it comes to for a unit, and the count that it stands for.
use Rattle.std.specs.Prelude.{ℕ, zero, suc, ◌+◌, ◌-◌, Bool, true, false, cond, ◌||◌, ltb, Float, Option, Some, None}
use Rattle.std.specs.Float.{binary64}
use Rattle.std.specs.Float.Ieee.{sub, mul, div, lt}
use Rattle.words.specs.Floats.{unit}
use Rattle.binomial.specs.declared.Binv.{Binv}
use Rattle.binomial.specs.Setup.{whole}

-- give up if x exceeds 110 or n
abbrev pub too_far : ℕ → ℕ → Bool
too_far n x = ltb 110 x || ltb n x

-- the next r: r * (a / x - s)
abbrev pub next_r : Binv → ℕ → Float → Float
next_r b x r = mul binary64 r (sub binary64 (div binary64 b.a (whole x)) b.s)

-- An attempt that stands at x, u and r: the x that it ends with, or none where it gives up. `above` says whether u is above r. While it is: take r
-- from u, add 1 to x, give up if x exceeds 110 or n, set r to r * (a / x - s). The steps bound the recursion alone, and cut nothing off:
-- `attempt_unbounded`.
unfoldable pub attempt_from : ℕ → Binv → ℕ → Float → Float → Bool → Option ℕ
attempt_from zero b x u r above = None
attempt_from (suc steps) b x u r false = Some x
attempt_from (suc steps) b x u r true =
    let x' = x + 1 in
    let u' = sub binary64 u r in
    let r' = next_r b x' r in
    let later = attempt_from steps b x' u' r' (lt r' u') in
    cond (too_far b.n x') None later

-- an attempt takes a unit u and x = 0
abbrev pub attempt_of : Binv → Float → Option ℕ
attempt_of b u = attempt_from 111 b 0 u b.r (lt b.r u)

-- whether it ended, and with which x
abbrev pub has_ended : Option ℕ → Bool
has_ended (Some x) = true
has_ended None = false

abbrev pub ended_at : Option ℕ → ℕ
ended_at (Some x) = x
ended_at None = 0

-- the attempt of a word's unit
abbrev pub attempt_by : Binv → ℕ → Option ℕ
attempt_by b w = attempt_of b (unit w)

-- the answer is x, or n - x if flipped
abbrev pub count_of : Binv → ℕ → ℕ
count_of b x = cond b.flip (b.n - x) x
