-- It is refused where its number of slots is, where the sum is 0, where a word is wanting or the link is no slot's, and else has both.
use Rattle.std.proofs.Common.{◌≡◌, ◌<◌, ◌≤◌, length, refl, rules}
use Rattle.std.proofs.lemmas.Result.{err_from_is_err_and}
use Rattle.weighted_alias.proofs.Promised.{part_is, draw_no_slot, draw_no_number, slot_in, number_in, draw_strays, draw_ends_at}
use Rattle.weighted_alias.proofs.drawn.Goals as goal
use Rattle.weighted_alias.proofs.drawn.Goals.{In_ok-slot}

-- the slot is in the table, and its words in the pool
slot_is_in : (c : In_ok-slot) → (c.in_ok-slot.slot < length c.args.odds.now) × (length c.args.links.now ≡ length c.args.odds.now) × (c.in_ok-slot.first ≤ length c.args.pool.now)
slot_is_in c = slot_in _ _ _ _ c.slots.ensures refl _ c.in_ok-slots.was c.if-sum-eq0.false _ _ c.in_ok-slot.ensures

pub returns-in_err-slot : goal.returns-in_err-slot
returns-in_err-slot c =
    let p = err_from_is_err_and c.from_residual-in_err-slot.result c.from_residual-in_err-slot.ensures.1 in
    rw (p.1, p.2) (draw_no_slot _ _ _ _ c.slots.ensures refl _ c.in_ok-slots.was c.if-sum-eq0.false _ c.in_err-slot.ensures)

pub offset_bounds-pool-first : goal.offset_bounds-pool-first
offset_bounds-pool-first c = let in_pool = (slot_is_in c).2 in search rules

pub slice_bounds-number_below-count : goal.slice_bounds-number_below-count
slice_bounds-number_below-count c = (slot_is_in c).2

pub slice_bounds-number_below-start : goal.slice_bounds-number_below-start
slice_bounds-number_below-start c = let in_pool = (slot_is_in c).2 in search rules

pub returns-in_err-number : goal.returns-in_err-number
returns-in_err-number c =
    let p = err_from_is_err_and c.from_residual-in_err-number.result c.from_residual-in_err-number.ensures.1 in
    let w = rw (part_is c.args.pool.now c.in_ok-slot.first) at c.in_err-number.ensures in
    rw (p.1, p.2) (draw_no_number _ _ _ _ c.slots.ensures refl _ c.in_ok-slots.was c.if-sum-eq0.false _ _ c.in_ok-slot.ensures _ w)

pub pair-requires : goal.pair-requires
pair-requires c = let i = slot_is_in (goal.at.pair-requires c).In_ok-slot in (i.0, i.1)

pub returns-in_err-index : goal.returns-in_err-index
returns-in_err-index c =
    let p = err_from_is_err_and c.from_residual-in_err-index.result c.from_residual-in_err-index.ensures.1 in
    let w = rw (part_is c.args.pool.now c.in_ok-slot.first) at c.in_ok-number.ensures in
    rw (p.1, p.2) (draw_strays _ _ _ _ c.slots.ensures refl _ c.in_ok-slots.was c.if-sum-eq0.false _ _ c.in_ok-slot.ensures _ _ w _ c.in_err-index.ensures)

pub overflow_add-result : goal.overflow_add-result
overflow_add-result c =
    let w = rw (part_is c.args.pool.now c.in_ok-slot.first) at c.in_ok-number.ensures in
    let in_pool = number_in _ _ _ _ c.slots.ensures refl _ c.in_ok-slots.was c.if-sum-eq0.false _ _ c.in_ok-slot.ensures _ _ w in
    search rules

pub returns : goal.returns
returns c =
    let w = rw (part_is c.args.pool.now c.in_ok-slot.first) at c.in_ok-number.ensures in
    draw_ends_at _ _ _ _ c.slots.ensures refl _ c.in_ok-slots.was c.if-sum-eq0.false _ _ c.in_ok-slot.ensures _ _ w _ c.in_ok-index.ensures
