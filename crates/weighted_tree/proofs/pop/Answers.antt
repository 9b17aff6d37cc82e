-- Each refusal follows from the tests passed before and the one that failed; and each parent has what is taken from it, since
-- along sound parents the cells only grow.
use Rattle.std.proofs.Common.{◌≡◌, true, ◌≤◌, ◌-◌, ne_eqb, eq-eqb, arith, rules, refl}
use Rattle.refusal.specs.declared.Refusal.TheVariants.{BadCount, Empty, Damaged}
use Rattle.weighted_tree.specs.Store.{weight_at}
use Rattle.weighted_tree.specs.Pop as pop
use Rattle.weighted_tree.specs.Path.{CanChange, path_of, sound_all}
use Rattle.weighted_tree.proofs.Cells.{good_count, cell_fits, weight_le}
use Rattle.weighted_tree.proofs.Climb.{climb, sound_head, each_parents, damaged_no, damaged_yes}
use Rattle.weighted_tree.proofs.Promised.{call_refused, call_done, pop_says}
use Rattle.weighted_tree.proofs.Through.{passed, failed, passed_if, failed_if}
use Rattle.weighted_tree.proofs.pop.Goals as goal
use Rattle.weighted_tree.proofs.pop.Goals.{In_ok-last, In_ok-weight}

-- what is known where each test is passed
last : (c : In_ok-last) → (1 ≤ c.args.count) × (c.in_ok-last.last ≡ c.args.count - 1)
last c = passed Empty _ _ _ c.in_ok-last.ensures.value c.checked_sub.ensures

whole : (c : In_ok-weight) → (sound_all c.args.store.now c.args.count (path_of c.in_ok-last.last) ≡ true) × (c.in_ok-weight.weight ≡ weight_at c.args.store.now c.args.count c.in_ok-last.last)
whole c =
    let tree = c.in_ok-tree.ensures in
    passed_if Damaged _ _ _ _ c.in_ok-weight.ensures.value (rw (tree.0, tree.1) at c.weight_on_path.ensures)

pub returns-in_err-tree : goal.returns-in_err-tree
returns-in_err-tree c = let p = call_refused (pop_says _ _) BadCount refl c.in_err-tree.ensures.1 in search (rules, p)

pub returns-in_err-last : goal.returns-in_err-last
returns-in_err-last c =
    let none = failed Empty _ _ _ c.in_err-last.ensures.value c.checked_sub.ensures in
    let p = call_refused (pop_says _ _) Empty refl (c.in_ok-tree.ensures.2, eq-eqb _ _ (omega (arith, none))) in search (rules, p)

pub returns-in_err-weight : goal.returns-in_err-weight
returns-in_err-weight c =
    let tree = c.in_ok-tree.ensures in
    let end = last (goal.at.returns-in_err-weight c).In_ok-last in
    let unsound = failed_if Damaged _ _ _ _ c.in_err-weight.ensures.value (rw (tree.0, tree.1) at c.weight_on_path.ensures) in
    let broken = rw end.1 at (damaged_yes _ _ _ unsound) in
    let p = call_refused (pop_says _ _) Damaged refl (tree.2, (ne_eqb _ _ (omega arith), broken)) in search (rules, p)

pub change_parents-requires : goal.change_parents-requires
change_parents-requires c =
    let at = goal.at.change_parents-requires c in
    let end = last at.In_ok-last in
    let known = whole at.In_ok-weight in
    let room = good_count _ _ c.in_ok-tree.ensures.2 in
    let most = cell_fits c.args.store.now c.args.count 0 (λ k. search rules) in
    let own = weight_le c.args.store.now c.args.count c.in_ok-last.last in
    let way = (sound_head _ _ _ _ known.0).1 in
    (omega arith, each_parents (CanChange 0 c.in_ok-weight.weight) _ _ (climb _) (omega arith) way (λ x low high. (omega arith, omega arith)))

pub returns : goal.returns
unfolding pop.changed
returns c =
    let at = goal.at.returns c in
    let end = last at.In_ok-last in
    let known = whole at.In_ok-weight in
    let sound = rw end.1 at (damaged_no _ _ _ known.0) in
    call_done (pop_says _ _) (c.in_ok-tree.ensures.2, (ne_eqb _ _ (omega arith), (sound, tt))) _ _
    (rw (known.1, end.1) refl) (rw (c.change_parents.ensures, known.1, end.1) refl)
