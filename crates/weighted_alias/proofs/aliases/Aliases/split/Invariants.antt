-- The slots below this one are on their lists, as the definition puts them slot by slot, and the slices are those that were lent.
use Rattle.std.proofs.Common.{◌≡◌}
use Rattle.weighted_alias.specs.Lists.{heads, Kept, Split}
use Rattle.weighted_alias.proofs.aliases.Aliases.split.Given as goal

abbrev pub invariant-loop-slot : goal.invariant-loop-slot
invariant-loop-slot l =
    record {
      kept : Kept l.initial.aliases l.aliases;
      odds_are : l.aliases.odds.now ≡ l.initial.aliases.odds.now;
      listed : Split l.sum l.initial.aliases.odds.now l.initial.aliases.links.now l.slot l.aliases.links.now (heads l.aliases);
    }
