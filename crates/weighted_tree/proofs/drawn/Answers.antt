-- A draw ends as its tests or its walk do.
use Rattle.std.proofs.Common.{◌≡◌, eq-eqb, arith, rules, sym, refl, ◌∙◌}
use Rattle.std.specs.Prelude.{Ok, Err}
use Rattle.refusal.specs.declared.Refusal.TheVariants.{BadCount, InsufficientNonZero}
use Rattle.weighted_tree.specs.Store.{total}
use Rattle.weighted_tree.proofs.Cells.{cell_some}
use Rattle.weighted_tree.proofs.Steps.{drawn_refused, drawn_nothing, drawn_walk}
use Rattle.weighted_tree.proofs.drawn.Goals as goal
use Rattle.weighted_tree.proofs.drawn.Goals.{After-total-total}

total_is : (c : After-total-total) → c.total-total.result ≡ total c.args.store.now c.args.count
total_is c = let tree = c.in_ok-tree.ensures in rw (tree.0, tree.1) at c.total-total.ensures

pub returns-in_err-tree : goal.returns-in_err-tree
returns-in_err-tree c = let p = drawn_refused _ _ c.args.pool.now BadCount refl c.in_err-tree.ensures.1 in search (rules, p)

pub returns-then-total-eq0 : goal.returns-then-total-eq0
returns-then-total-eq0 c =
    let none = sym (total_is (goal.at.returns-then-total-eq0 c).After-total-total) ∙ c.if-total-eq0.true in
    drawn_refused _ _ _ InsufficientNonZero refl (c.in_ok-tree.ensures.2, eq-eqb _ _ none)

pub returns-in_default : goal.returns-in_default
returns-in_default c =
    let is = total_is (goal.at.returns-in_default c).After-total-total in
    let p = drawn_nothing _ _ _ c.in_ok-tree.ensures.2 _ is c.if-total-eq0.false _ c.in_default.ensures in rw p.0 at p.1

pub descend-requires : goal.descend-requires
descend-requires c = cell_some c.in_ok-tree.tree.store.now c.in_ok-tree.tree.count 0 (omega (arith, c.total-total.ensures))

pub returns-in_err-index : goal.returns-in_err-index
returns-in_err-index c =
    let tree = c.in_ok-tree.ensures in
    let is = total_is (goal.at.returns-in_err-index c).After-total-total in
    let p = drawn_walk _ _ _ tree.2 _ is c.if-total-eq0.false _ _ c.in-Ok.ensures (Err c.in_err-index.field-0.0) (rw (tree.0, tree.1) at c.in_err-index.ensures) in
    search (rules, p)

pub returns : goal.returns
returns c =
    let tree = c.in_ok-tree.ensures in
    let is = total_is (goal.at.returns c).After-total-total in
    drawn_walk _ _ _ tree.2 _ is c.if-total-eq0.false _ _ c.in-Ok.ensures (Ok c.in_ok-index.index) (rw (tree.0, tree.1) at c.in_ok-index.ensures)
