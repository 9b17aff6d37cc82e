-- The exports of the tree: what each leaves in the lent answer, and in the store where it may change that.
use Rattle.std.specs.Prelude.{ℕ, List}
use Rattle.refusal.specs.Answers.{alone, yes_no}
use Rattle.weighted_tree.specs.Store.{Store}
use Rattle.weighted_tree.specs.New as new
use Rattle.weighted_tree.specs.IsValid as is_valid
use Rattle.weighted_tree.specs.Get as get
use Rattle.weighted_tree.specs.Pop as pop
use Rattle.weighted_tree.specs.Push as push
use Rattle.weighted_tree.specs.Update as update
use Rattle.weighted_tree.specs.Walk as walk
use Rattle.weighted_tree.specs.Draw as draw
use Rattle.weighted_tree.specs.IsSound as is_sound
use Rattle.slot_draw.specs.Cells.{Promise, cells_by, drawing_cells}

abbrev pub New : Store → List ℕ → List ℕ → Store → Type 0
New s ws cells after = Promise (λ r. new.Promise s ws r after) (cells_by alone) cells

abbrev pub IsValid : Store → ℕ → List ℕ → Type 0
IsValid s n cells = Promise (λ r. is_valid.Promise s n r) (cells_by yes_no) cells

abbrev pub Get : Store → ℕ → ℕ → List ℕ → Type 0
Get s n i cells = Promise (λ r. get.Promise s n i r) (cells_by alone) cells

abbrev pub Pop : Store → ℕ → List ℕ → Store → Type 0
Pop s n cells after = Promise (λ r. pop.Promise s n r after) (cells_by (λ v. v)) cells

abbrev pub Push : Store → ℕ → ℕ → List ℕ → Store → Type 0
Push s n w cells after = Promise (λ r. push.Promise s n w r after) (cells_by alone) cells

abbrev pub Update : Store → ℕ → ℕ → ℕ → List ℕ → Store → Type 0
Update s n i w cells after = Promise (λ r. update.Promise s n i w r after) (cells_by alone) cells

abbrev pub Walk : Store → ℕ → ℕ → List ℕ → Type 0
Walk s n t cells = Promise (λ r. walk.Promise s n t r) (cells_by alone) cells

abbrev pub Draw : Store → ℕ → List ℕ → List ℕ → Type 0
Draw s n pool cells = Promise (λ r. draw.Promise s n pool r) drawing_cells cells

abbrev pub IsSound : Store → ℕ → List ℕ → Type 0
IsSound s n cells = Promise (λ r. is_sound.Promise s n r) (cells_by yes_no) cells
