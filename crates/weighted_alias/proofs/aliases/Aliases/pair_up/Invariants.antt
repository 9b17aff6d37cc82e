-- Each turn is one of the definition, with one slot fewer on the lists.
use Rattle.std.proofs.Common.{length}
use Rattle.weighted_alias.specs.New.{pair_up}
use Rattle.weighted_alias.specs.Lists.{heads, listed, Kept}
use Rattle.weighted_alias.proofs.Turns.{Pairing, on_lists}
use Rattle.weighted_alias.proofs.aliases.Aliases.pair_up.Given as goal

abbrev pub invariant-loop-self : goal.invariant-loop-self
invariant-loop-self l =
    let was = l.fn.self in
    let n = length was.odds.now in
    record { kept : Kept was l.self; pairing : Pairing n was.sum (pair_up n was.sum (listed was.odds.now was.links.now (heads was))) l.self.odds.now l.self.links.now (heads l.self) }

abbrev pub decreases-loop-self : goal.decreases-loop-self
decreases-loop-self l = on_lists (length l.fn.self.odds.now) l.self.links.now (heads l.self)
