-- The cells passed are capped, the others are as they were.
use Rattle.std.proofs.Common.{min, get_or}
use Rattle.counting.proofs.Below.{Filled}
use Rattle.alias_checker.proofs.cap.Given as goal

abbrev pub invariant-loop-i : goal.invariant-loop-i
invariant-loop-i l = Filled (λ k. min (get_or l.odds k 0) l.limit) l.fn.cells l.cells l.i
