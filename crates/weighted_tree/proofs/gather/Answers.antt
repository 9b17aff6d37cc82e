-- A step of the gathering has room, since what is not gathered yet has a sum that is a u64; and it keeps that sum.
use Rattle.std.proofs.Common.{◌≡◌, ℕ, ◌+◌, ◌-◌, ◌<◌, List, length-set, take, arith, sym, ◌∙◌}
use Rattle.counting.specs.Sum.{sum_of}
use Rattle.weighted_tree.proofs.Gathers.{gather_end, gather_step, gather_sum, gather_room}
use Rattle.weighted_tree.proofs.gather.Goals as goal

-- the front that is not gathered yet, one cell shorter and one longer
front : (s : List ℕ) (k : ℕ) → 0 < k → sum_of (take (k - 1 + 1) s) ≡ sum_of (take k s)
front s k h = let e : k - 1 + 1 ≡ k = omega arith in rw e

pub overflow_add-store : goal.overflow_add-store
overflow_add-store c =
    omega (arith, front c.loop-child.store c.loop-child.child (omega arith), gather_room c.loop-child.store (c.loop-child.child - 1) (omega arith) (omega arith))

pub loop-child-preserved : goal.loop-child-preserved
loop-child-preserved c = (
  simp length-set (omega arith),
  omega (arith, front c.loop-child.store c.loop-child.child (omega arith), gather_sum c.loop-child.store (c.loop-child.child - 1) (omega arith) (omega arith)),
  c.loop-child.invariant.2 ∙ gather_step _ _ (omega arith),
)

pub returns : goal.returns
returns c = sym (c.loop-child.invariant.2 ∙ gather_end _ _ (omega arith))
