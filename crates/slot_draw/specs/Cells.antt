-- What an export leaves in the lent answer: the numbers of an answer that the promise of its call allows, one to a cell.
use Rattle.std.specs.Prelude.{ℕ, ◌≡◌, List, [], ◌∷◌, Result}
use Rattle.refusal.specs.Answers.{tells, in_numbers, drawing_numbers}
use Rattle.refusal.specs.declared.Numbers.{Numbers}
use Rattle.refusal.specs.declared.Refusal.{Refusal}
use Rattle.refusal.specs.declared.Drawing.{Drawing}

-- an answer of a call, and its cells
pub record Promise {A : Type 0} (Allows : A → Type 0) (cells_of : A → List ℕ) (cells : List ℕ) : Type 0 where
  pub answer : A
  pub promise : Allows answer
  pub cells_are : cells ≡ cells_of answer

-- the number, and two values
abbrev pub three : Numbers → List ℕ
three t = t.number ∷ t.first ∷ t.second ∷ []

-- an answer's cells, by the two values that stand for what is given
abbrev pub cells_by : {A : Type 0} → (A → ℕ × ℕ) → Result A Refusal → List ℕ
cells_by values a = three (in_numbers values (tells a))

abbrev pub drawing_cells : Drawing → List ℕ
drawing_cells a = three (drawing_numbers a)

-- the cells hold the numbers into which an answer converts
abbrev pub Told : (Numbers → Type 0) → List ℕ → Type 0
Told Converts cells = (told : Numbers) × Converts told × (cells ≡ three told)
