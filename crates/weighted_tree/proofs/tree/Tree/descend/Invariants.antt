-- The loop's invariant: the walk from cell 0 ends as the walk from the cell that is reached. The measure: the cells above that one.
use Rattle.std.proofs.Common.{◌-◌}
use Rattle.weighted_tree.proofs.Steps.{Walking}
use Rattle.weighted_tree.proofs.tree.Tree.descend.Given as goal

abbrev pub invariant-loop-index : goal.invariant-loop-index
invariant-loop-index l = Walking l.self.store.now l.self.count l.target l.index l.rest

abbrev pub decreases-loop-index : goal.decreases-loop-index
decreases-loop-index l = l.self.count - l.index
