-- One weight more at the front, a step at a time, until all stand there.
use Rattle.std.proofs.Common.{arith}
use Rattle.weighted_tree.proofs.Gathers.{copy_begin, copy_step, copy_end}
use Rattle.weighted_tree.proofs.copy_in.Goals as goal

pub loop-i-init : goal.loop-i-init
loop-i-init c = copy_begin c.args.weights.now _

pub loop-i-preserved : goal.loop-i-preserved
loop-i-preserved c = copy_step _ _ _ _ c.loop-i.invariant (omega arith) (omega arith)

pub returns : goal.returns
returns c = copy_end _ _ _ c.loop-i.i c.loop-i.invariant (omega arith) (omega arith)
