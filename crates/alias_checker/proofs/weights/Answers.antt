-- It is refused where its number of slots is or the sum is 0, and else ends as the restoring does.
use Rattle.std.proofs.Common.{◌≡◌, arith, rules, tests}
use Rattle.std.proofs.lemmas.Result.{err_from_is_err_and}
use Rattle.alias_checker.proofs.Promised.{differs, weights_slots, weights_total, weights_whole, weights_broken}
use Rattle.alias_checker.proofs.weights.Goals as goal
use Rattle.alias_checker.proofs.weights.Goals.{After-slots}

-- the code's question, whichever of its tests answered it
differ : (c : After-slots) → c.if-links-n.slots ≡ differs c.args.odds.now c.args.links.now c.args.sum c.args.output.now
differ c = grind (rules, tests)

pub returns-in_err-slots : goal.returns-in_err-slots
returns-in_err-slots c =
    let p = err_from_is_err_and c.from_residual.result c.from_residual.ensures.1 in
    rw (p.1, p.2) (weights_slots _ _ _ _ c.slots.ensures (differ (goal.at.returns-in_err-slots c).After-slots) _ c.in_err-slots.was)

pub returns-then-sum-eq0 : goal.returns-then-sum-eq0
returns-then-sum-eq0 c =
    weights_total _ _ _ _ c.slots.ensures (differ (goal.at.returns-then-sum-eq0 c).After-slots) _ c.in_ok-slots.was (omega arith)

pub returns-in_err-restore : goal.returns-in_err-restore
returns-in_err-restore c =
    let same = differ (goal.at.returns-in_err-restore c).After-slots in
    let p = err_from_is_err_and c.from_residual-in_err-restore.result c.from_residual-in_err-restore.ensures.1 in
    rw (p.1, p.2) (weights_broken _ _ _ _ c.slots.ensures same _ c.in_ok-slots.was (λ e. omega (arith, e)) _ _ c.in_err-restore.ensures)

pub returns : goal.returns
returns c =
    let same = differ (goal.at.returns c).After-slots in
    weights_whole _ _ _ _ c.slots.ensures same _ c.in_ok-slots.was (λ e. omega (arith, e)) _ c.in_ok-restore.ensures
