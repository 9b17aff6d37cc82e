-- The loop of `counting::sum`: `sum` is the sum of the numbers passed, and a u64.
use Rattle.std.proofs.Common.{◌≡◌, ◌<◌, ◌^◌, take}
use Rattle.counting.specs.Sum.{sum_of}
use Rattle.counting.proofs.sum.Given as goal

abbrev pub invariant-loop-i : goal.invariant-loop-i
invariant-loop-i l = (l.sum ≡ sum_of (take l.i l.numbers)) × (l.sum < 2 ^ 64)
