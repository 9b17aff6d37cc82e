-- The loop's invariant: gathering from the start is gathering the cells below the child from now, and their sum, which stays as it was, is a
-- u64.
use Rattle.std.proofs.Common.{◌≡◌, ◌≤◌, ◌<◌, ◌-◌, ◌^◌, length, take}
use Rattle.counting.specs.Sum.{sum_of}
use Rattle.weighted_tree.specs.New.{gathered}
use Rattle.weighted_tree.proofs.gather.Given as goal

abbrev pub invariant-loop-child : goal.invariant-loop-child
invariant-loop-child l =
    (l.child ≤ length l.store) × (sum_of (take l.child l.store) < 2 ^ 64) × (gathered (l.count - 1) l.initial.store ≡ gathered (l.child - 1) l.store)
