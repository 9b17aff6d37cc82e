-- It is refused where its number of slots or its weights are, and else answers as the judgement does.
use Rattle.std.proofs.Common.{◌≡◌, rules, tests}
use Rattle.std.proofs.lemmas.Result.{err_from_is_err_and}
use Rattle.alias_checker.proofs.Promised.{unequal, check_slots, check_weights, check_judges, check_judged}
use Rattle.alias_checker.proofs.check.Goals as goal
use Rattle.alias_checker.proofs.check.Goals.{After-slots}

-- the code's question, whichever of its tests answered it
differ : (c : After-slots) → c.if-links-n.slots ≡ unequal c.args.weights.now c.args.odds.now c.args.links.now c.args.work.now
differ c = grind (rules, tests)

pub returns-in_err-slots : goal.returns-in_err-slots
returns-in_err-slots c =
    let p = err_from_is_err_and c.from_residual.result c.from_residual.ensures.1 in
    rw (p.1, p.2) (check_slots _ _ _ _ c.slots.ensures (differ (goal.at.returns-in_err-slots c).After-slots) _ c.in_err-slots.was)

pub judge-requires : goal.judge-requires
judge-requires c =
    check_judges c.args.weights.now c.args.odds.now c.args.links.now c.args.work.now c.slots.ensures (differ (goal.at.judge-requires c).After-slots) _ c.in_ok-slots.was c.weight_sum.ensures _ c.in_ok-sum.was

pub returns-in_err-sum : goal.returns-in_err-sum
returns-in_err-sum c =
    let same = differ (goal.at.returns-in_err-sum c).After-slots in
    let p = err_from_is_err_and c.from_residual-in_err-sum.result c.from_residual-in_err-sum.ensures.1 in
    rw (p.1, p.2) (check_weights _ _ _ _ c.slots.ensures same _ c.in_ok-slots.was c.weight_sum.ensures _ c.in_err-sum.was)

pub returns : goal.returns
returns c =
    check_judged _ _ _ _ c.slots.ensures (differ (goal.at.returns c).After-slots) _ c.in_ok-slots.was c.weight_sum.ensures _ c.in_ok-sum.was _ _ c.judge.ensures
