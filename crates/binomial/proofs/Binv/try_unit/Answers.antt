-- A step of the attempt by its laws: it ends where what is left of the unit is not above the chance, goes on where a step is left, and else gives up.
use Rattle.std.proofs.Common.{◌-◌, sym, ◌∙◌, arith}
use Rattle.std.specs.Prelude.{min}
use Rattle.binomial.proofs.Attempts.{attempt_bounded, attempt_ends, attempt_goes_on, attempt_gives_up}
use Rattle.binomial.proofs.Binv.try_unit.Goals as goal

pub loop-x-init : goal.loop-x-init
loop-x-init c = attempt_bounded _ _ _ (omega arith)

pub returns-then-not-u-r : goal.returns-then-not-u-r
returns-then-not-u-r c =
    let l = c.loop-x in
    sym (attempt_ends c.args.self l.x l.u l.r _ _ (min c.args.self.n 110 - l.x) (omega arith) c.if-not-u-r.true) ∙ l.invariant

pub loop-x-preserved : goal.loop-x-preserved
loop-x-preserved c =
    let l = c.loop-x in
    sym (attempt_goes_on c.args.self l.x l.u l.r _ _ _ (omega arith) (omega arith) c.if-not-u-r.false) ∙ l.invariant

pub returns-else-not-u-r : goal.returns-else-not-u-r
returns-else-not-u-r c =
    let l = c.loop-x in
    sym (attempt_gives_up c.args.self l.x l.u l.r _ _ (omega arith) (omega arith) c.if-not-u-r.false) ∙ l.invariant
