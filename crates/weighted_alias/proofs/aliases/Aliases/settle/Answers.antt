-- The loop follows the list to its end.
use Rattle.std.proofs.Common.{arith, refl, ap, length}
use Rattle.weighted_alias.proofs.Slices.{kept_begins, kept_on}
use Rattle.weighted_alias.proofs.Settles.{settle_begins, settle_ends, settle_in, settle_goes_on, settle_falls}
use Rattle.weighted_alias.proofs.aliases.Aliases.settle.Goals as goal

pub loop-slot-init : goal.loop-slot-init
loop-slot-init c = record { kept = kept_begins _; links_are = refl; settling = settle_begins _ _ _ _ c.requires }

pub bounds-self-at : goal.bounds-self-at
bounds-self-at c =
    let k = c.loop-slot.invariant.settling in
    omega (arith, settle_in _ _ _ _ _ _ k c.loop-slot-test.true, k.long)

pub bounds-self-at-in-loop-slot : goal.bounds-self-at-in-loop-slot
bounds-self-at-in-loop-slot c =
    let k = c.loop-slot.invariant.settling in
    omega (arith, settle_in _ _ _ _ _ _ k c.loop-slot-test.true, k.links_long, ap length c.loop-slot.invariant.links_are)

pub loop-slot-smaller : goal.loop-slot-smaller
loop-slot-smaller c =
    rw c.loop-slot.invariant.links_are (settle_falls _ _ _ _ _ _ c.loop-slot.invariant.settling c.loop-slot-test.true)

pub loop-slot-preserved : goal.loop-slot-preserved
loop-slot-preserved c =
    let i = c.loop-slot.invariant in
    record { kept = kept_on _ _ _ i.kept (record { odds = refl; links = refl; sum = refl }); links_are = i.links_are; settling = rw (i.links_are, i.kept.sum) (settle_goes_on _ _ _ _ _ _ i.settling c.loop-slot-test.true) }

pub returns : goal.returns
returns c =
    let i = c.loop-slot.invariant in
    record { kept = i.kept; long = i.settling.long; links_are = i.links_are; odds_are = settle_ends _ _ _ _ _ _ i.settling c.loop-slot-test.false }
