-- The loop's invariant: the attempt of no word before this one ends.
use Rattle.std.proofs.Common.{◌≡◌, ◌<◌, ℕ, false, get_or}
use Rattle.binomial.specs.Draw.{ends}
use Rattle.binomial.proofs.Binv.invert.Given as goal

abbrev pub invariant-loop-i : goal.invariant-loop-i
invariant-loop-i l = (k : ℕ) → k < l.i → ends l.self (get_or l.pool k 0) ≡ false
