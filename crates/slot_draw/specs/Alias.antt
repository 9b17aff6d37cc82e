-- The exports of the alias table: what each leaves in the lent answer, and in the lent slices where it may change them.
use Rattle.std.specs.Prelude.{ℕ, List}
use Rattle.refusal.specs.Answers.{alone, yes_no}
use Rattle.weighted_alias.specs.New as new
use Rattle.weighted_alias.specs.Draw as draw
use Rattle.alias_checker.specs.Check as check
use Rattle.alias_checker.specs.Weights as weights
use Rattle.slot_draw.specs.Cells.{Promise, cells_by, drawing_cells}

abbrev pub New : List ℕ → List ℕ → List ℕ → List ℕ → List ℕ → List ℕ → Type 0
New ws odds links cells odds_after links_after = Promise (λ r. new.Promise ws odds links r odds_after links_after) (cells_by alone) cells

abbrev pub Draw : List ℕ → List ℕ → ℕ → List ℕ → List ℕ → Type 0
Draw odds links S pool cells = Promise (λ r. draw.Promise odds links S pool r) drawing_cells cells

abbrev pub Check : List ℕ → List ℕ → List ℕ → List ℕ → List ℕ → List ℕ → Type 0
Check ws odds links work cells after = Promise (λ r. check.Promise ws odds links work r after) (cells_by yes_no) cells

abbrev pub Weights : List ℕ → List ℕ → ℕ → List ℕ → List ℕ → List ℕ → Type 0
Weights odds links S output cells after = Promise (λ r. weights.Promise odds links S output r after) (cells_by alone) cells
