-- The cells hold what they began with and what the slots so far lend them.
use Rattle.std.proofs.Common.{length}
use Rattle.alias_checker.proofs.Lending.{Lending}
use Rattle.alias_checker.proofs.Table.lend.Given as goal

abbrev pub invariant-loop-own : goal.invariant-loop-own
invariant-loop-own l = Lending l.self.odds.now l.self.links.now l.self.sum l.fn.cells l.cells (length l.yielded)
