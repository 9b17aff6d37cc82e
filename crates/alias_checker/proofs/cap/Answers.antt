-- Every cell is capped, and by the largest u64 none is.
use Rattle.std.proofs.Common.{◌≡◌, ◌∙◌, arith, min, length, get_or}
use Rattle.counting.specs.Below.{list_below}
use Rattle.counting.proofs.Below.{filled_all}
use Rattle.alias_checker.proofs.Judging.{capped_all}
use Rattle.alias_checker.proofs.cap.Goals as goal
use Rattle.alias_checker.proofs.cap.Goals.{After-loop-i}

capped : (c : After-loop-i) → c.loop-i.cells ≡ list_below (length c.args.odds.now) (λ i. min (get_or c.args.odds.now i 0) c.args.limit)
capped c = filled_all _ _ _ _ c.loop-i.invariant (omega arith) ∙ (rw c.requires)

pub returns-clause-capped : goal.returns-clause-capped
returns-clause-capped c = capped (goal.at.returns-clause-capped c).After-loop-i

pub returns-clause-uncapped : goal.returns-clause-uncapped
returns-clause-uncapped c =
    let is = capped (goal.at.returns-clause-uncapped c).After-loop-i in
    λ most. is ∙ (rw most) ∙ capped_all _ (λ i. omega (arith, c.type_inv.odds i))
