-- One step of a walk, on plain numbers.
use Rattle.std.specs.Prelude.{ℕ, ◌+◌, ◌-◌, Bool, cond, ltb, leb, Option, Some, None}
use Rattle.weighted_tree.specs.declared.step.Step.{Step}
use Rattle.weighted_tree.specs.declared.step.Step.TheVariants.{Left, Right, Here}

-- a subtotal is at least its children's sum
abbrev pub covers : ℕ → ℕ → ℕ → Bool
covers subtotal left right = leb (left + right) subtotal

-- left if the target is below the left subtotal, else that is taken off and right by the same test, else here; none from an unsound cell
abbrev pub step_from : ℕ → ℕ → ℕ → ℕ → Option Step
step_from subtotal left right target =
    cond (covers subtotal left right)
    (Some (cond (ltb target left) Left (cond (ltb (target - left) right) (Right (target - left)) Here)))
    None
