-- The export of a ziggurat round: what it leaves in the lent answer of five cells.
use Rattle.std.specs.Prelude.{ℕ, Bool, List, Float}
use Rattle.ziggurat.specs.declared.Rounding.{Rounding}
use Rattle.ziggurat.specs.Round as round
use Rattle.ziggurat.specs.Numbers.{round_numbers, five}
use Rattle.slot_draw.specs.Cells.{Promise}

abbrev pub rounding_cells : Rounding → List ℕ
rounding_cells a = five (round_numbers a)

abbrev pub Round : Bool → List Float → List Float → List ℕ → List ℕ → Type 0
Round symmetric X F pool cells = Promise (λ r. round.Promise symmetric X F pool r) rounding_cells cells
