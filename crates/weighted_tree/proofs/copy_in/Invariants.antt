-- The store begins with the weights passed, and goes on as it was.
use Rattle.std.proofs.Common.{◌≡◌, ◌++◌, take, drop}
use Rattle.weighted_tree.proofs.copy_in.Given as goal

abbrev pub invariant-loop-i : goal.invariant-loop-i
invariant-loop-i l = l.store ≡ take l.i l.weights ++ drop l.i l.fn.store
