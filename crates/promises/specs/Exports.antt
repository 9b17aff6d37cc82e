-- The rows of the table of refusals, said of the cells that an export writes.
use Rattle.std.specs.Prelude.{ℕ, ◌<◌, ◌≡◌, ◌↔◌, List, get_or}
use Rattle.promises.specs.Rows.{Table, FirstIs}

-- the number that an export tells
abbrev pub number_in : List ℕ → ℕ
number_in cells = get_or cells 0 0

-- a number above 0 is told exactly when it is that of the first row whose case holds
abbrev pub NumberBy : Table → List ℕ → Type 0
NumberBy rows cells = (k : ℕ) → 0 < k → (number_in cells ≡ k) ↔ FirstIs k rows

-- and then the export leaves what it found
pub record Refuses {B : Type 0} (rows : Table) (cells : List ℕ) (found after : B) : Type 0 where
  pub number : NumberBy rows cells
  pub kept : 0 < number_in cells → after ≡ found
