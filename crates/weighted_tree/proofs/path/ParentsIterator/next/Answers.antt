-- The next cell is the parent, and what is left are the parents of that one; at cell 0 nothing is left.
use Rattle.std.proofs.Common.{◌≡◌, ◌/◌, ◌∷◌, length, arith, ap, rules}
use Rattle.weighted_tree.specs.Path.{parents}
use Rattle.weighted_tree.proofs.Climb.{parents_top, parents_from}
use Rattle.weighted_tree.proofs.path.ParentsIterator.next.Goals as goal
use Rattle.weighted_tree.proofs.path.ParentsIterator.next.Goals.{In_ok-self}

-- one parent more
more : (c : In_ok-self) → parents c.args.self.now.0 ≡ c.in_ok-self.field-0 / 2 ∷ parents (c.in_ok-self.field-0 / 2)
more c = parents_from _ _ c.in_ok-self.ensures.0 c.in_ok-self.ensures.1

pub returns-in_err-self-clause-steps : goal.returns-in_err-self-clause-steps
returns-in_err-self-clause-steps c =
    let none = parents_top c.args.self.now.0 (omega (arith, c.in_err-self.ensures)) in rw c.from_residual.ensures (none, none)

pub returns-clause-steps : goal.returns-clause-steps
returns-clause-steps c = more (goal.at.returns-clause-steps c).In_ok-self

pub returns-clause-goes : goal.returns-clause-goes
returns-clause-goes c =
    let e = ap length (more (goal.at.returns-clause-goes c).In_ok-self) in search (rules, e)
