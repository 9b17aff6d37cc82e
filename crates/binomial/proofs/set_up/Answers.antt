-- The chance that the numbers are made from is the smaller of p and 1 - p. Then the tests of 16 and 17, and the numbers of BINV.
use Rattle.std.proofs.Common.{◌≡◌, rules}
use lib.Ieee.{of_bits}
use Rattle.binomial.specs.Setup.{smaller, binv_of}
use Rattle.binomial.specs.New.{later_rule}
use Rattle.binomial.proofs.set_up.Goals as goal
use Rattle.binomial.proofs.set_up.Goals.{Joined-flip, then-flip, else-flip}

-- p, or 1 - p where it is flipped
smaller_is : (c : Joined-flip) → c.if-flip.smaller ≡ smaller c.args.p
unfolding of_bits
smaller_is c = elim c.if-flip.branch [ then-flip w ↦ search rules | else-flip w ↦ search rules ]

pub returns-then-n-smaller : goal.returns-then-n-smaller
unfolding of_bits later_rule
returns-then-n-smaller c = let low = smaller_is (goal.at.returns-then-n-smaller c).Joined-flip in search (rules, low)

pub returns-then-q : goal.returns-then-q
unfolding of_bits later_rule
returns-then-q c = let low = smaller_is (goal.at.returns-then-q c).Joined-flip in search (rules, low)

pub returns : goal.returns
unfolding of_bits later_rule binv_of
returns c = let low = smaller_is (goal.at.returns c).Joined-flip in search (rules, low)
