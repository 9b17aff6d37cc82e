-- The loop begins with all 64 bits. A turn takes the lowest bit off, by the law of one bit, whether it is set or not; and where no bit is left,
-- what is made is the power.
use Rattle.std.proofs.Common.{◌≡◌, ◌/◌, ◌%◌, cond, eqb, refl, sym, ap, ◌∙◌, rules, arith}
use lib.Ieee.{of_bits, binary64, mul}
use Rattle.binomial.specs.Setup.{power_from}
use Rattle.binomial.proofs.Powers.{power_done, power_step}
use Rattle.binomial.proofs.power.Goals as goal
use Rattle.binomial.proofs.power.Goals.{then-bits-eq1, else-bits-eq1}

pub loop-bits-init : goal.loop-bits-init
unfolding of_bits
loop-bits-init c = (64, omega arith, refl)

pub loop-bits-preserved : goal.loop-bits-preserved
loop-bits-preserved c =
    let l = c.loop-bits in
    let z = power_step l.invariant.0 l.bits l.current l.made _ c.loop-bits-test.true l.invariant.1 l.invariant.2 in
    let made : c.if-bits-eq1.made ≡ cond (eqb (l.bits % 2) 1) (mul binary64 l.made l.current) l.made =
    elim c.if-bits-eq1.branch [ then-bits-eq1 w ↦ search rules | else-bits-eq1 w ↦ search rules ] in
    (z.0, z.1, ap (power_from z.0 (l.bits / 2) (mul binary64 l.current l.current)) made ∙ z.2)

pub returns : goal.returns
returns c =
    let l = c.loop-bits in
    sym (power_done l.invariant.0 l.bits l.current l.made (omega arith)) ∙ l.invariant.2
