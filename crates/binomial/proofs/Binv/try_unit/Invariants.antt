-- The loop's invariant: the whole attempt is the attempt from here on, with as many steps left as x is from n and from 110.
use Rattle.std.proofs.Common.{◌≡◌, ◌+◌, ◌-◌}
use Rattle.std.specs.Prelude.{min}
use Rattle.std.specs.Float.Ieee.{lt}
use Rattle.binomial.specs.Attempt.{attempt_from, attempt_of}
use Rattle.binomial.proofs.Binv.try_unit.Given as goal

abbrev pub invariant-loop-x : goal.invariant-loop-x
invariant-loop-x l = attempt_from (min l.self.n 110 + 1 - l.x) l.self l.x l.u l.r (lt l.r l.u) ≡ attempt_of l.self l.unit
