-- It is refused where its number of slots or its weights are, and else fills the table.
use Rattle.std.proofs.Common.{◌≡◌, rules, tests}
use Rattle.std.proofs.lemmas.Result.{err_from_is_err_and}
use Rattle.weighted_alias.proofs.Promised.{lengths, new_slots, new_weights, new_fills, new_filled}
use Rattle.weighted_alias.proofs.new.Goals as goal
use Rattle.weighted_alias.proofs.new.Goals.{After-slots}

-- the code's question, whichever of its tests answered it
differ : (c : After-slots) → c.if-odds-n.slots ≡ lengths c.args.weights.now c.args.odds.now c.args.links.now
differ c = grind (rules, tests)

pub returns-in_err-slots : goal.returns-in_err-slots
returns-in_err-slots c =
    let p = err_from_is_err_and c.from_residual.result c.from_residual.ensures.1 in
    rw (p.1, p.2) (new_slots _ _ _ c.slots.ensures (differ (goal.at.returns-in_err-slots c).After-slots) _ c.in_err-slots.was)

pub fill-requires : goal.fill-requires
fill-requires c =
    let same = differ (goal.at.fill-requires c).After-slots in
    new_fills _ c.args.odds.now c.args.links.now c.slots.ensures same _ c.in_ok-slots.was c.weight_sum.ensures _ c.in_ok-sum.was

pub returns-in_err-sum : goal.returns-in_err-sum
returns-in_err-sum c =
    let same = differ (goal.at.returns-in_err-sum c).After-slots in
    let p = err_from_is_err_and c.from_residual-in_err-sum.result c.from_residual-in_err-sum.ensures.1 in
    rw (p.1, p.2) (new_weights _ _ _ c.slots.ensures same _ c.in_ok-slots.was c.weight_sum.ensures _ c.in_err-sum.was)

pub returns : goal.returns
returns c =
    let same = differ (goal.at.returns c).After-slots in
    new_filled _ _ _ c.slots.ensures same _ c.in_ok-slots.was c.weight_sum.ensures _ c.in_ok-sum.was _ _ c.fill.ensures
