-- The loop's invariant: what is left of the bits makes, of the current power and what is made so far, the whole power. The measure is the number
-- whose bits are left.
use Rattle.std.proofs.Common.{◌≡◌, ℕ, ◌<◌, ◌^◌}
use Rattle.binomial.specs.Setup.{power_from, power_of}
use Rattle.binomial.proofs.power.Given as goal

abbrev pub invariant-loop-bits : goal.invariant-loop-bits
invariant-loop-bits l = (k : ℕ) × (l.bits < 2 ^ k) × (power_from k l.bits l.current l.made ≡ power_of l.q l.n)

abbrev pub decreases-loop-bits : goal.decreases-loop-bits
decreases-loop-bits l = l.bits
