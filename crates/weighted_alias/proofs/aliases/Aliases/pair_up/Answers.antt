-- Each turn is one of the definition, with one slot fewer on the lists, and it stops where a list is empty.
use Rattle.std.proofs.Common.{arith}
use Rattle.weighted_alias.proofs.Slices.{kept_begins, kept_on}
use Rattle.weighted_alias.proofs.Turns.{on_lists_lem, pairing_begins, opened, turn_takes, turned, fewer, ends_small, ends_big}
use Rattle.weighted_alias.proofs.aliases.Aliases.pair_up.Goals as goal
use Rattle.weighted_alias.proofs.aliases.Aliases.pair_up.Goals.{After-pair_heads}

pub loop-self-init : goal.loop-self-init
loop-self-init c = record { kept = kept_begins _; pairing = pairing_begins _ _ _ _ c.requires }

pub pair_heads-requires : goal.pair_heads-requires
pair_heads-requires c =
    rw c.loop-self.invariant.kept.sum (turn_takes _ _ _ _ _ _ _ (opened _ _ _ _ _ _ c.loop-self.invariant.pairing c.loop-self-test.true c.if-self.true))

pub loop-self-smaller : goal.loop-self-smaller
loop-self-smaller c =
    let count = on_lists_lem _ _ _ _ _ _ c.loop-self.invariant.pairing in
    let both = opened _ _ _ _ _ _ c.loop-self.invariant.pairing c.loop-self-test.true c.if-self.true in
    omega (arith, fewer _ _ _ _ _ _ _ both _ _ _ (rw c.loop-self.invariant.kept.sum at c.pair_heads.ensures.turned))

pub loop-self-preserved : goal.loop-self-preserved
loop-self-preserved c =
    let both = opened _ _ _ _ _ _ c.loop-self.invariant.pairing c.loop-self-test.true c.if-self.true in
    record { kept = kept_on _ _ _ c.loop-self.invariant.kept c.pair_heads.ensures.kept; pairing = turned _ _ _ _ _ _ _ both _ _ _ (rw c.loop-self.invariant.kept.sum at c.pair_heads.ensures.turned) }

pub returns-else-self : goal.returns-else-self
returns-else-self c =
    let p = c.loop-self.invariant.pairing in
    record { kept = c.loop-self.invariant.kept; long = p.long; links_long = p.links_long; left = ends_big _ _ _ _ _ _ p c.if-self.false }

pub returns-after-loop-self : goal.returns-after-loop-self
returns-after-loop-self c =
    let p = c.loop-self.invariant.pairing in
    record { kept = c.loop-self.invariant.kept; long = p.long; links_long = p.links_long; left = ends_small _ _ _ _ _ _ p c.loop-self-test.false }
