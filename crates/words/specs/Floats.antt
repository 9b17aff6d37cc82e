-- Words into floats: the unit, and the two u of a ziggurat round. Each is a whole number over a power of two, exactly.
use Rattle.std.specs.Prelude.{ℕ, ◌+◌, ◌-◌, ◌*◌, ◌/◌, ◌^◌, Bool, true, false, cond, T, nat_lt, Float}
use Rattle.std.specs.Float.{binary64}
use Rattle.std.specs.Float.Ieee.{fits, odd}
use Rattle.std.specs.Float.Ieee.Exact.{HasValue}

-- x is an f64 with the sign s, true for minus, and its magnitude is num / den: nothing is rounded
pub record Exact (x : Float) (s : Bool) (num den : ℕ) : Type 0 where
  pub held : T (fits binary64 x)
  pub value : HasValue x s num den

-- the top bits of a word, so many of them
abbrev pub top_bits : ℕ → ℕ → ℕ
top_bits bits w = w / 2 ^ (64 - bits)

-- the float num / 2^l with the sign s, for a num below 2^64: `odd` only takes the factors of two out of num
unfoldable pub over : Bool → ℕ → ℕ → Float
unfolding odd
over s num l = odd 64 s num 0 l

-- a unit is the top 52 bits k of one word as k / 2^52
abbrev pub unit : ℕ → Float
unit w = over false (top_bits 52 w) 52

-- symmetric u is exactly (k - 2^51) / 2^51, and plus zero at k = 2^51
unfoldable pub symmetric_u : ℕ → Float
unfolding over
symmetric_u w =
    let k = top_bits 52 w in
    cond (nat_lt k (2 ^ 51)) (over true (2 ^ 51 - k) 51) (over false (k - 2 ^ 51) 51)

-- one-sided u is exactly (2k + 1) / 2^53
abbrev pub one_sided_u : ℕ → Float
one_sided_u w = over false (2 * top_bits 52 w + 1) 53
