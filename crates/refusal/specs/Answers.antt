-- What the answers tell: the values, or the number of the refusal. And every answer as three numbers.
use Rattle.std.specs.Prelude.{ℕ, Bool, cond, ◌≡◌, Result, Ok, Err}
use Rattle.refusal.specs.Number.{number}
use Rattle.refusal.specs.Outcome.{Outcome, gave, refused, consumed}
use Rattle.refusal.specs.declared.Numbers.{Numbers}
use Rattle.refusal.specs.declared.Refusal.{Refusal}
use Rattle.refusal.specs.declared.Drawing.{Drawing}

abbrev pub tells : {A : Type 0} → Result A Refusal → Outcome A
tells (Ok v) = gave v
tells (Err r) = refused (number r)

-- a draw that ended with an outcome after it had used some words
pub record Ended (o : Result ℕ Refusal) (used : ℕ) (d : Drawing) : Type 0 where
  pub same : d.outcome ≡ o
  pub words : d.words ≡ consumed (tells o) used

-- a draw that gave an index and took some words, or was refused and consumes none
abbrev pub drawing : Result (ℕ × ℕ) Refusal → Drawing
drawing (Ok (index, words)) = record { outcome = Ok index; words = words }
drawing (Err r) = record { outcome = Err r; words = 0 }

-- ---- three numbers
abbrev pub given : ℕ → ℕ → Numbers
given a b = record { number = 0; first = a; second = b }

abbrev pub refused_by : ℕ → Numbers
refused_by k = record { number = k; first = 0; second = 0 }

-- an outcome, by the two values that stand for what was given
abbrev pub in_numbers : {A : Type 0} → (A → ℕ × ℕ) → Outcome A → Numbers
in_numbers values (gave v) = given (values v).0 (values v).1
in_numbers values (refused k) = refused_by k

-- one value
abbrev pub alone : ℕ → ℕ × ℕ
alone n = (n, 0)

-- 1 for yes, 0 for no
abbrev pub yes_no : Bool → ℕ × ℕ
yes_no b = alone (cond b 1 0)

-- a draw tells its words beside the index, and beside a refusal too
abbrev pub drawing_numbers : Drawing → Numbers
drawing_numbers d =
    let told = in_numbers alone (tells d.outcome) in
    record { number = told.number; first = told.first; second = d.words }
