-- The odds passed are scaled, the others are as they were.
use Rattle.std.proofs.Common.{◌*◌, length, get_or}
use Rattle.counting.proofs.Below.{Filled}
use Rattle.weighted_alias.proofs.scale.Given as goal

abbrev pub invariant-loop-i : goal.invariant-loop-i
invariant-loop-i l = Filled (λ k. length l.weights * get_or l.weights k 0) l.fn.odds l.odds l.i
