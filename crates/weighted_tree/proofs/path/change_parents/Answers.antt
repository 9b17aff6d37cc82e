-- Each parent can change when its turn comes, and at cell 0 nothing is left: the check finds both by the laws that the function names. What is
-- left to change after a turn is one law more, given with the place, over any value that comes to the same.
use Rattle.std.proofs.Common.{rules}
use Rattle.weighted_tree.proofs.Climb.{change_more}
use Rattle.weighted_tree.proofs.path.change_parents.Goals as goal

pub loop-at-preserved : goal.loop-at-preserved
loop-at-preserved c = let more = change_more _ _ _ _ _ _ c.loop-at.invariant _ _ c.in-Some.ensures.steps in search (rules, more)
