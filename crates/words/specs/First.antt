-- The first word of a pool that passes a test.
use Rattle.std.specs.Prelude.{ℕ, ◌+◌, Bool, cond, List, [], ◌∷◌}

-- its place, counted from one, where k words stand before these; 0 where no word passes
unfoldable pub first_from : (ℕ → Bool) → ℕ → List ℕ → ℕ
first_from test k [] = 0
first_from test k (w ∷ ws) = let later = first_from test (k + 1) ws in cond (test w) (k + 1) later

abbrev pub first : (ℕ → Bool) → List ℕ → ℕ
first test pool = first_from test 0 pool
