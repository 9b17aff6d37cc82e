-- The test that the setup and the draw share, by its number and in the words of the table in docs/RULES.md.
use Rattle.std.specs.Prelude.{ℕ, Bool, ltb}

-- 15: n, or the constant of a lent constant setup, above 1,048,576
abbrev pub too_many_trials : ℕ → Bool
too_many_trials n = ltb 1048576 n
