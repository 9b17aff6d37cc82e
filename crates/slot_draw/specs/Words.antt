-- The export of a number below a total: what it leaves in the lent answer. The floats of a word are given by the definitions of `words`.
use Rattle.std.specs.Prelude.{ℕ, List}
use Rattle.words.specs.Below as below
use Rattle.slot_draw.specs.Cells.{Promise, cells_by}

-- the number and its place
abbrev pub NumberBelow : List ℕ → ℕ → List ℕ → Type 0
NumberBelow pool T cells = Promise (λ r. below.Promise pool T r) (cells_by (λ v. v)) cells
