-- The draw from words: the count that a setup gives, and the words it consumes.
use Rattle.std.specs.Prelude.{ℕ, ◌-◌, Bool, ◌≡◌, List, [], ◌∷◌, eqb, get_or}
use Rattle.refusal.specs.Outcome.{Outcome, gave, in_order, consumed}
use Rattle.refusal.specs.Answers.{tells}
use Rattle.refusal.specs.declared.Drawing.{Drawing}
use Rattle.words.specs.First.{first}
use Rattle.binomial.specs.declared.Binv.{Binv}
use Rattle.binomial.specs.declared.Method.{Method}
use Rattle.binomial.specs.declared.Method.TheVariants as method
use Rattle.binomial.specs.Tests.{too_many_trials}
use Rattle.binomial.specs.Attempt.{attempt_by, has_ended, ended_at, count_of}

-- the attempts made until one ends, each with the next unit; 0 where the words end first
abbrev pub ends : Binv → ℕ → Bool
ends b w = has_ended (attempt_by b w)

abbrev pub attempts : Binv → List ℕ → ℕ
attempts b pool = first (ends b) pool

-- what the last of them ended with
abbrev pub last_attempt : Binv → List ℕ → ℕ
last_attempt b pool = ended_at (attempt_by b (get_or pool (attempts b pool - 1) 0))

-- n, or the constant
abbrev pub most : Method → ℕ
most (method.Constant c) = c
most (method.Binv b) = b.n

-- BINV draw 15, 12: a constant never gives 12
abbrev pub refusals : Method → List ℕ → List (ℕ × Bool)
refusals (method.Constant c) pool = (15, too_many_trials c) ∷ []
refusals (method.Binv b) pool = (15, too_many_trials b.n) ∷ (12, eqb (attempts b pool) 0) ∷ []

-- the count: a constant, or what the last attempt stands for
abbrev pub count : Method → List ℕ → ℕ
count (method.Constant c) pool = c
count (method.Binv b) pool = count_of b (last_attempt b pool)

-- the words: none for a constant, and else the attempts made
abbrev pub used : Method → List ℕ → ℕ
used (method.Constant c) pool = 0
used (method.Binv b) pool = attempts b pool

unfoldable pub rule : Method → List ℕ → Outcome ℕ
rule m pool = in_order (refusals m pool) (gave (count m pool))

-- the same with the words beside it
unfoldable pub drawn : Method → List ℕ → Outcome (ℕ × ℕ)
drawn m pool = in_order (refusals m pool) (gave (count m pool, used m pool))

pub record Promise (m : Method) (pool : List ℕ) (r : Drawing) : Type 0 where
  pub answer : tells r.outcome ≡ rule m pool
  pub words : r.words ≡ consumed (rule m pool) (used m pool)
