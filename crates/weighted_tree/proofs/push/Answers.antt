-- Each refusal follows from the tests passed before and the one that failed; and each parent has room for the weight where cell 0 has, since
-- along sound parents the cells only grow.
use Rattle.std.proofs.Common.{◌≡◌, true, false, ◌+◌, ◌<◌, ◌^◌, lt-ltb, le-ltb, length-set, arith, rules, sym, refl, ◌∙◌}
use Rattle.refusal.specs.declared.Refusal.TheVariants.{BadCount, Full, Damaged, Overflow}
use Rattle.weighted_tree.specs.Store.{total}
use Rattle.weighted_tree.specs.Push as push
use Rattle.weighted_tree.specs.Path.{CanChange, parents, sound_all}
use Rattle.weighted_tree.specs.Tests.{full}
use Rattle.weighted_tree.proofs.Cells.{has_room}
use Rattle.weighted_tree.proofs.Climb.{climb, each_set, each_parents, damaged_no, damaged_yes}
use Rattle.weighted_tree.proofs.Promised.{call_refused, call_done, push_says}
use Rattle.weighted_tree.proofs.Through.{passed, failed}
use Rattle.weighted_tree.proofs.push.Goals as goal
use Rattle.weighted_tree.proofs.push.Goals.{After-parents_sound, After-total, In_ok-ok_or}

-- what is known where each test is passed
roomy : (c : After-parents_sound) → full c.args.store.now c.args.count ≡ false
roomy c =
    let tree = c.in_ok-tree.ensures in
    sym (rw (tree.0, tree.1) at c.is_full.ensures) ∙ c.if-is_full.false

sound : (c : After-total) → sound_all c.args.store.now c.args.count (parents c.args.count) ≡ true
sound c =
    let tree = c.in_ok-tree.ensures in
    sym (rw (tree.0, tree.1) at c.parents_sound.ensures) ∙ c.if-not-parents_sound.false

fits : (c : In_ok-ok_or) → total c.args.store.now c.args.count + c.args.weight < 2 ^ 64
fits c =
    let tree = c.in_ok-tree.ensures in
    let sum = passed Overflow _ _ _ c.in_ok-ok_or.ensures.value c.checked_add.ensures in
    omega (arith, rw (tree.0, tree.1) at c.total.ensures, sum.0)

pub returns-in_err-tree : goal.returns-in_err-tree
returns-in_err-tree c = let p = call_refused (push_says _ _ c.args.weight) BadCount refl c.in_err-tree.ensures.1 in search (rules, p)

pub returns-then-is_full : goal.returns-then-is_full
returns-then-is_full c =
    let tree = c.in_ok-tree.ensures in
    call_refused (push_says _ _ _) Full refl (tree.2, sym (rw (tree.0, tree.1) at c.is_full.ensures) ∙ c.if-is_full.true)

pub returns-then-not-parents_sound : goal.returns-then-not-parents_sound
returns-then-not-parents_sound c =
    let at = goal.at.returns-then-not-parents_sound c in
    let tree = c.in_ok-tree.ensures in
    let broken = damaged_yes _ _ _ (sym (rw (tree.0, tree.1) at c.parents_sound.ensures) ∙ c.if-not-parents_sound.true) in
    call_refused (push_says _ _ _) Damaged refl (tree.2, (roomy at.After-parents_sound, broken))

pub returns-in_err-ok_or : goal.returns-in_err-ok_or
returns-in_err-ok_or c =
    let at = goal.at.returns-in_err-ok_or c in
    let tree = c.in_ok-tree.ensures in
    let over = failed Overflow _ _ _ c.in_err-ok_or.ensures.value c.checked_add.ensures in
    let sum = total c.args.store.now c.args.count + c.args.weight in
    let exceeds = lt-ltb 18446744073709551615 sum (omega (arith, rw (tree.0, tree.1) at c.total.ensures, over)) in
    let whole = damaged_no _ _ _ (sound at.After-total) in
    let p = call_refused (push_says _ _ _) Overflow refl (tree.2, (roomy at.After-parents_sound, (whole, exceeds))) in search (rules, p)

pub bounds-store-count : goal.bounds-store-count
bounds-store-count c = (has_room _ _ c.in_ok-tree.ensures.2 (roomy (goal.at.bounds-store-count c).After-parents_sound)).1

pub change_parents-requires : goal.change_parents-requires
change_parents-requires c =
    let at = goal.at.change_parents-requires c in
    let room = has_room _ _ c.in_ok-tree.ensures.2 (roomy at.After-parents_sound) in
    let most = fits at.In_ok-ok_or in
    let can = CanChange c.args.weight 0 in
    let each = each_parents can _ _ (climb _) (omega arith) (sound at.After-total) (λ x low high. (omega arith, omega arith)) in
    (simp length-set (omega arith), each_set can _ _ _ (climb _) (omega arith) each)

pub returns : goal.returns
unfolding push.changed
returns c =
    let at = goal.at.returns c in
    let most = le-ltb 18446744073709551615 _ (omega (arith, fits at.In_ok-ok_or)) in
    let whole = damaged_no _ _ _ (sound at.After-total) in
    call_done (push_says _ _ _) (c.in_ok-tree.ensures.2, (roomy at.After-parents_sound, (whole, (most, tt)))) _ _ refl c.change_parents.ensures
