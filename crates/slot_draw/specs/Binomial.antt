-- The exports of the binomial: a setup in seven cells, and the draw from one.
use Rattle.std.specs.Prelude.{ℕ, List, Float, Result}
use Rattle.refusal.specs.Answers.{tells}
use Rattle.refusal.specs.declared.Refusal.{Refusal}
use Rattle.binomial.specs.declared.Method.{Method}
use Rattle.binomial.specs.New as new
use Rattle.binomial.specs.Draw as draw
use Rattle.binomial.specs.Numbers as numbers
use Rattle.slot_draw.specs.Cells.{Promise, drawing_cells}

abbrev pub made_cells : Result Method Refusal → List ℕ
made_cells a = numbers.seven (numbers.in_numbers (tells a))

-- the setup that seven cells hold, whatever they are: a constant where cell 1 is 0, flipped where cell 6 is not 0, and cell 0 is not looked at
abbrev pub method_of : List ℕ → Method
method_of cells = numbers.method_of (numbers.of_seven cells)

abbrev pub New : ℕ → Float → List ℕ → Type 0
New n p cells = Promise (λ r. new.Promise n p r) made_cells cells

abbrev pub Draw : List ℕ → List ℕ → List ℕ → Type 0
Draw setup pool cells = Promise (λ r. draw.Promise (method_of setup) pool r) drawing_cells cells
