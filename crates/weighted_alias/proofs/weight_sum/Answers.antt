-- No weight so far is too heavy, so their sum is a u64.
use Rattle.std.proofs.Common.{arith, rules}
use Rattle.weighted_alias.proofs.Scales.{summing_begins, summing_goes_on, sum_fits, sums_heavy, sums_nothing, sums_something, no_weights}
use Rattle.weighted_alias.proofs.weight_sum.Goals as goal

pub returns-then-is_empty : goal.returns-then-is_empty
returns-then-is_empty c = record { answer = no_weights _ (search rules) }

pub loop-weight-init : goal.loop-weight-init
loop-weight-init c = summing_begins _

pub returns-then-max_weight_size-weight : goal.returns-then-max_weight_size-weight
returns-then-max_weight_size-weight c =
    record { answer = sums_heavy _ _ _ c.loop-weight.invariant c.loop-weight-test.true c.if-max_weight_size-weight.true }

pub overflow_add-sum : goal.overflow_add-sum
overflow_add-sum c =
    record { fits = omega (arith, sum_fits _ _ _ (summing_goes_on _ _ _ c.loop-weight.invariant c.loop-weight-test.true c.if-max_weight_size-weight.false)) }

pub loop-weight-preserved : goal.loop-weight-preserved
loop-weight-preserved c = summing_goes_on _ _ _ c.loop-weight.invariant c.loop-weight-test.true c.if-max_weight_size-weight.false

pub returns-then-sum-eq0 : goal.returns-then-sum-eq0
returns-then-sum-eq0 c = record { answer = sums_nothing _ _ _ c.loop-weight.invariant c.loop-weight-test.false c.if-sum-eq0.true }

pub returns : goal.returns
returns c = record { answer = sums_something _ _ _ c.loop-weight.invariant c.loop-weight-test.false c.if-sum-eq0.false }
