-- An attempt that ended did so at n at most, so that the flip does not go below 0; it was that of the word's unit, so that the search ends here. One
-- that gave up leaves the search to the words after it.
use Rattle.std.proofs.Common.{◌≡◌, ◌∙◌, ◌+◌, ◌-◌, ℕ, false, sym, ap, get_or, arith, rules}
use borrow.Author.Count.{below_more}
use Rattle.std.specs.Prelude.{Some, None}
use Rattle.words.proofs.First.{no_first}
use Rattle.binomial.specs.Attempt.{attempt_of, attempt_by, has_ended, count_of}
use Rattle.binomial.specs.Draw.{ends, attempts, drawn}
use Rattle.binomial.proofs.Attempts.{attempt_within}
use Rattle.binomial.proofs.Attempts.{first_at}
use Rattle.binomial.proofs.Binv.invert.Goals as goal
use Rattle.binomial.proofs.Binv.invert.Goals.{then-self, else-self}

pub overflow_sub-count : goal.overflow_sub-count
overflow_sub-count c = (attempt_within _ _ _ (sym c.try_unit.ensures ∙ c.in-Some.is)).1

pub returns-in-Some : goal.returns-in-Some
unfolding drawn
returns-in-Some c =
    let b = c.args.self in
    let pool = c.args.pool.now in
    let here : attempt_by b (get_or pool c.loop-i.i 0) ≡ Some c.in-Some.x = ap (attempt_of b) (sym c.unit.ensures) ∙ sym c.try_unit.ensures ∙ c.in-Some.is in
    let count : c.if-self.count ≡ count_of b c.in-Some.x = elim c.if-self.branch [ then-self w ↦ search rules | else-self w ↦ search rules ] in
    let made : attempts b pool ≡ c.loop-i.i + 1 = first_at (ends b) pool c.loop-i.i c.loop-i-test.true c.loop-i.invariant (ap has_ended here) in
    let one : c.loop-i.i + 1 - 1 ≡ c.loop-i.i = omega arith in
    search (rules, here, count, made, one)

pub loop-i-preserved : goal.loop-i-preserved
loop-i-preserved c =
    let here : attempt_by c.args.self (get_or c.args.pool.now c.loop-i.i 0) ≡ None = ap (attempt_of c.args.self) (sym c.unit.ensures) ∙ sym c.try_unit.ensures ∙ c.in_default.is in
    below_more (λ (k : ℕ). ends c.args.self (get_or c.args.pool.now k 0) ≡ false) c.loop-i.i c.loop-i.invariant (ap has_ended here)

pub returns : goal.returns
unfolding drawn
returns c =
    let none : attempts c.args.self c.args.pool.now ≡ 0 = (no_first (ends c.args.self) c.args.pool.now).1 (λ k h. c.loop-i.invariant k (omega arith)) in
    search (rules, none)
