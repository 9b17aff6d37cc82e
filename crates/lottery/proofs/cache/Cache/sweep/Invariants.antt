-- `sweep` ends: each draw takes a word of the pool at least off what is left.
use Rattle.std.proofs.Common.{length}
use Rattle.lottery.proofs.cache.Cache.sweep.Given as goal

abbrev pub decreases-loop-self : goal.decreases-loop-self
decreases-loop-self l = length l.rest
