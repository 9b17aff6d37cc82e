-- The loop's invariant: what is left to change are the parents of the cell reached.
use Rattle.weighted_tree.proofs.Climb.{Changing}
use Rattle.weighted_tree.proofs.path.change_parents.Given as goal

abbrev pub invariant-loop-at : goal.invariant-loop-at
invariant-loop-at l = Changing l.rise l.fall l.index l.initial.store l.store l.at-iterator.0
