-- Each step that the code takes is that of the tree, and what follows from it is what the loop goes on with or the walk ends with.
use Rattle.std.proofs.Common.{◌≡◌, arith, rules, sym, ap, ◌∙◌}
use Rattle.std.specs.Prelude.{Some, None}
use Rattle.weighted_tree.specs.declared.step.Step.TheVariants.{Left, Right, Here}
use Rattle.weighted_tree.proofs.Steps.{step_at, step_at_lem, walking, walking_begin}
use Rattle.weighted_tree.proofs.tree.Tree.descend.Goals as goal
use Rattle.weighted_tree.proofs.tree.Tree.descend.Goals.{After-step_from, In_ok-ok_or}

-- the step that the code takes is that of the tree
came : (c : After-step_from) → c.step_from.result ≡ step_at c.args.self.now.store.now c.args.self.now.count c.loop-index.index c.loop-index.rest
came c = step_at_lem _ _ _ _ _ _ _ _ c.subtotal.ensures c.subtotal-left.ensures c.subtotal-right.ensures c.step_from.ensures

step : (c : In_ok-ok_or) → Some c.in_ok-ok_or.field-0 ≡ step_at c.args.self.now.store.now c.args.self.now.count c.loop-index.index c.loop-index.rest
step c =
    let is : c.step_from.result ≡ Some c.in_ok-ok_or.field-0 = grind arith in
    sym is ∙ came (goal.at.In_ok-ok_or c).After-step_from

pub loop-index-init : goal.loop-index-init
loop-index-init c = walking_begin _ _ _ c.requires

pub returns-in_err-ok_or : goal.returns-in_err-ok_or
returns-in_err-ok_or c =
    let is : c.step_from.result ≡ None = grind arith in
    let p = walking _ _ _ _ _ c.loop-index.invariant None (sym is ∙ came (goal.at.returns-in_err-ok_or c).After-step_from) in
    search (rules, p)

pub loop-index-preserved-in-Left : goal.loop-index-preserved-in-Left
loop-index-preserved-in-Left c =
    walking _ _ _ _ _ c.loop-index.invariant (Some Left) (ap Some (sym c.in-Left.is) ∙ step (goal.at.loop-index-preserved-in-Left c).In_ok-ok_or)

pub loop-index-preserved : goal.loop-index-preserved
loop-index-preserved c =
    walking _ _ _ _ _ c.loop-index.invariant (Some (Right _)) (ap Some (sym c.in-Right.is) ∙ step (goal.at.loop-index-preserved c).In_ok-ok_or)

pub returns-in-Here : goal.returns-in-Here
returns-in-Here c =
    walking _ _ _ _ _ c.loop-index.invariant (Some Here) (ap Some (sym c.in-Here.is) ∙ step (goal.at.returns-in-Here c).In_ok-ok_or)
