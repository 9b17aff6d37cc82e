-- The slots from `slot` on are still to be settled, and their list gets shorter.
use Rattle.std.proofs.Common.{◌≡◌, length}
use Rattle.weighted_alias.specs.New.{settle}
use Rattle.weighted_alias.specs.Lists.{chain, Kept}
use Rattle.weighted_alias.proofs.Settles.{Settling}
use Rattle.weighted_alias.proofs.aliases.Aliases.settle.Given as goal

abbrev pub invariant-loop-slot : goal.invariant-loop-slot
invariant-loop-slot l =
    let was = l.fn.self in
    let n = length was.odds.now in
    record {
      kept : Kept was l.self;
      links_are : l.self.links.now ≡ was.links.now;
      settling : Settling n was.sum (settle was.sum (chain n was.links.now l.head) was.odds.now) was.links.now l.self.odds.now l.slot;
    }

abbrev pub decreases-loop-slot : goal.decreases-loop-slot
decreases-loop-slot l = length (chain (length l.fn.self.odds.now) l.fn.self.links.now l.slot)
