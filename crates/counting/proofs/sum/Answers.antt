-- The first number that is too much for what is passed makes the whole sum exceed u64; each other one is added to it.
use Rattle.std.proofs.Common.{rules, sym, arith}
use Rattle.counting.proofs.Sums.{sum_zero, sum_suc, sum_exceeds, sum_done}
use Rattle.counting.proofs.sum.Goals as goal

pub loop-i-init : goal.loop-i-init
loop-i-init c = (sym (sum_zero c.args.numbers.now), omega arith)

pub returns-in_err-sum : goal.returns-in_err-sum
returns-in_err-sum c =
    let exceeds = sum_exceeds _ _ _ c.loop-i-test.true c.loop-i.invariant.0 in search (rules, exceeds)

pub loop-i-preserved : goal.loop-i-preserved
loop-i-preserved c = let more = sum_suc _ _ c.loop-i-test.true in search (rules, more)

pub returns : goal.returns
returns c = sum_done _ _ _ c.loop-i-test.false c.loop-i.invariant.0 c.loop-i.invariant.1
