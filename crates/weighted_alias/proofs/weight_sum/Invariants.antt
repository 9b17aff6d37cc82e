-- No weight so far is too heavy, and the sum is that of these.
use Rattle.weighted_alias.proofs.Scales.{Summing}
use Rattle.weighted_alias.proofs.weight_sum.Given as goal

abbrev pub invariant-loop-weight : goal.invariant-loop-weight
invariant-loop-weight l = Summing l.weights l.weight-index l.sum
