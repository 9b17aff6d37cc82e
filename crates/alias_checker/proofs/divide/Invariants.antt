-- The cells passed are divided, the others are as they were.
use Rattle.std.proofs.Common.{◌/◌, length, get_or}
use Rattle.counting.proofs.Below.{Filled}
use Rattle.alias_checker.proofs.divide.Given as goal

abbrev pub invariant-loop-cell : goal.invariant-loop-cell
invariant-loop-cell l = Filled (λ k. get_or l.fn.cells k 0 / length l.fn.cells) l.fn.cells l.cells l.cell-index
