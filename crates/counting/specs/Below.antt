-- Sums, counts, questions and lists over the numbers below n.
use Rattle.std.specs.Prelude.{ℕ, zero, suc, ◌+◌, Bool, true, cond, not, ◌&&◌, List, [], ◌∷◌, ◌++◌}

-- the sum of f 0, f 1, .., f (n - 1)
unfoldable pub sum_below : ℕ → (ℕ → ℕ) → ℕ
sum_below zero f = 0
sum_below (suc n) f = sum_below n f + f n

-- at how many numbers below n a test holds
abbrev pub how_many : ℕ → (ℕ → Bool) → ℕ
how_many n test = sum_below n (λ i. cond (test i) 1 0)

-- whether a test holds at every number below n
unfoldable pub all_below : ℕ → (ℕ → Bool) → Bool
all_below zero test = true
all_below (suc n) test = all_below n test && test n

-- and whether at some
abbrev pub some_below : ℕ → (ℕ → Bool) → Bool
some_below n test = not (all_below n (λ i. not (test i)))

-- the numbers f 0, f 1, .., f (n - 1)
unfoldable pub list_below : ℕ → (ℕ → ℕ) → List ℕ
list_below zero f = []
list_below (suc n) f = list_below n f ++ (f n ∷ [])
