-- Each refusal follows from the tests passed before and the one that failed; and each cell of the path has room for the rise where cell 0 has,
-- and what the slot falls by, since along sound parents the cells only grow.
use Rattle.std.proofs.Common.{◌≡◌, true, ◌+◌, ◌-◌, ◌<◌, ◌^◌, lt-ltb, le-ltb, le-leb, arith, rules, ap, refl, ◌∙◌}
use Rattle.std.proofs.lemmas.Bool.{lt-leb}
use Rattle.counting.specs.Sum.{exceeds_u64}
use Rattle.refusal.specs.declared.Refusal.TheVariants.{BadCount, BadIndex, Damaged, Overflow}
use Rattle.weighted_tree.specs.Store.{total, weight_at}
use Rattle.weighted_tree.specs.Path.{CanChange, path_of, sound_all}
use Rattle.weighted_tree.specs.Update as update
use Rattle.weighted_tree.proofs.Cells.{good_count, weight_le}
use Rattle.weighted_tree.proofs.Climb.{each_path, damaged_no, damaged_yes}
use Rattle.weighted_tree.proofs.Promised.{call_refused, call_done, update_says}
use Rattle.weighted_tree.proofs.Through.{passed, failed, passed_if, failed_if}
use Rattle.weighted_tree.proofs.update.Goals as goal
use Rattle.weighted_tree.proofs.update.Goals.{After-total, In_ok-ok_or}

-- what is known where each test is passed
whole : (c : After-total) → (sound_all c.args.store.now c.args.count (path_of c.args.index) ≡ true) × (c.in_ok-old.old ≡ weight_at c.args.store.now c.args.count c.args.index)
whole c =
    let tree = c.in_ok-tree.ensures in
    passed_if Damaged _ _ _ _ c.in_ok-old.ensures.value (rw (tree.0, tree.1) at c.weight_on_path.ensures)

-- the rise, and the total with it, of what the code read
rise : (c : After-total) → c.saturating_sub-rise.result ≡ update.rise c.args.store.now c.args.count c.args.index c.args.weight
rise c = c.saturating_sub-rise.ensures ∙ ap (λ x. c.args.weight - x) (whole c).1

risen : (c : After-total) → total c.args.store.now c.args.count + update.rise c.args.store.now c.args.count c.args.index c.args.weight ≡ c.total.result + c.saturating_sub-rise.result
risen c =
    let tree = c.in_ok-tree.ensures in
    omega (arith, rw (tree.0, tree.1) at c.total.ensures, rise c)

fits : (c : In_ok-ok_or) → c.total.result + c.saturating_sub-rise.result < 2 ^ 64
fits c = (passed Overflow _ _ _ c.in_ok-ok_or.ensures.value c.checked_add.ensures).0

pub returns-in_err-tree : goal.returns-in_err-tree
returns-in_err-tree c = let p = call_refused (update_says _ _ c.args.index c.args.weight) BadCount refl c.in_err-tree.ensures.1 in search (rules, p)

pub returns-then-count-index : goal.returns-then-count-index
returns-then-count-index c = call_refused (update_says _ _ _ _) BadIndex refl (c.in_ok-tree.ensures.2, le-leb _ _ c.if-count-index.true)

pub returns-in_err-old : goal.returns-in_err-old
returns-in_err-old c =
    let tree = c.in_ok-tree.ensures in
    let unsound = failed_if Damaged _ _ _ _ c.in_err-old.ensures.value (rw (tree.0, tree.1) at c.weight_on_path.ensures) in
    let p = call_refused (update_says _ _ _ c.args.weight) Damaged refl (tree.2, (lt-leb _ _ c.if-count-index.false, damaged_yes _ _ _ unsound)) in search (rules, p)

pub returns-in_err-ok_or : goal.returns-in_err-ok_or
returns-in_err-ok_or c =
    let at = goal.at.returns-in_err-ok_or c in
    let over = failed Overflow _ _ _ c.in_err-ok_or.ensures.value c.checked_add.ensures in
    let exceeds = ap exceeds_u64 (risen at.After-total) ∙ lt-ltb 18446744073709551615 _ (omega (arith, over)) in
    let sound = damaged_no _ _ _ (whole at.After-total).0 in
    let p = call_refused (update_says _ _ _ _) Overflow refl (c.in_ok-tree.ensures.2, (lt-leb _ _ c.if-count-index.false, (sound, exceeds))) in search (rules, p)

pub change_path-requires : goal.change_path-requires
change_path-requires c =
    let at = goal.at.change_path-requires c in
    let room = good_count _ _ c.in_ok-tree.ensures.2 in
    let known = whole at.After-total in
    let most = fits at.In_ok-ok_or in
    let sum = risen at.After-total in
    let rises = rise at.After-total in
    let own = weight_le c.args.store.now c.args.count c.args.index in
    (omega arith, each_path (CanChange _ _) _ _ _ c.if-count-index.false known.0 (λ x low high. (omega arith, omega arith)))

pub returns : goal.returns
unfolding update.changed
returns c =
    let at = goal.at.returns c in
    let known = whole at.After-total in
    let most = ap exceeds_u64 (risen at.After-total) ∙ le-ltb 18446744073709551615 _ (omega (arith, fits at.In_ok-ok_or)) in
    let sound = damaged_no _ _ _ known.0 in
    let fall = c.saturating_sub-fall.ensures ∙ ap (λ x. x - c.args.weight) known.1 in
    call_done (update_says _ _ _ _) (c.in_ok-tree.ensures.2, (lt-leb _ _ c.if-count-index.false, (sound, (most, tt)))) _ _ refl
    (rw (← rise at.After-total, ← fall) c.change_path.ensures)
