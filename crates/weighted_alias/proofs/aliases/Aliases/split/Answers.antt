-- Heads and links follow the definition slot by slot.
use Rattle.std.proofs.Common.{◌∙◌, refl, arith, ap, length}
use Rattle.weighted_alias.proofs.Slices.{kept_begins, kept_on}
use Rattle.weighted_alias.proofs.Splits.{split_begins, split_goes_on, split_long}
use Rattle.weighted_alias.proofs.aliases.Aliases.split.Goals as goal

pub loop-slot-init : goal.loop-slot-init
loop-slot-init c = record { kept = kept_begins _; odds_are = refl; listed = split_begins _ _ _ _ refl refl }

pub push-requires : goal.push-requires
push-requires c =
    let i = c.loop-slot.invariant in
    let long = ap length i.odds_are in
    (omega arith, omega arith, omega (arith, ap length i.listed.links_are, split_long c.args.sum c.loop-slot.slot c.args.odds.now c.args.links.now))

pub loop-slot-preserved : goal.loop-slot-preserved
loop-slot-preserved c =
    let i = c.loop-slot.invariant in
    let p = c.push.ensures in
    record { kept = kept_on _ _ _ i.kept p.kept; odds_are = p.odds_are ∙ i.odds_are; listed = split_goes_on _ _ _ _ _ _ _ _ i.listed (rw (i.odds_are, i.kept.sum) at p.pushed) }
