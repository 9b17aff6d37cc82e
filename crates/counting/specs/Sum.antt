-- The sum of a list, and whether it is a u64.
use Rattle.std.specs.Prelude.{ℕ, ◌+◌, Bool, cond, List, [], ◌∷◌, ltb, Option, Some, None}

unfoldable pub sum_of : List ℕ → ℕ
sum_of [] = 0
sum_of (x ∷ xs) = x + sum_of xs

-- a number exceeds u64
abbrev pub exceeds_u64 : ℕ → Bool
exceeds_u64 x = ltb 18446744073709551615 x

abbrev pub summed : ℕ → Option ℕ
summed x = cond (exceeds_u64 x) None (Some x)
