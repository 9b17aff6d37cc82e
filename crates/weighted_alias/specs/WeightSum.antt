-- weight_sum: the sum of the weights of a table.
use Rattle.std.specs.Prelude.{ℕ, Bool, ◌≡◌, List, [], ◌∷◌}
use Rattle.counting.specs.Sum.{sum_of}
use Rattle.refusal.specs.Outcome.{Outcome, gave, in_order}
use Rattle.refusal.specs.Answers.{tells}
use Rattle.weighted_alias.specs.Tests.{too_heavy, no_total}
use Rattle.std.specs.Prelude.{Result}
use Rattle.refusal.specs.declared.Refusal.{Refusal}

-- 2, 3
abbrev pub refusals : List ℕ → List (ℕ × Bool)
refusals ws =
    (2, too_heavy ws)
    ∷ (3, no_total (sum_of ws))
    ∷ []

unfoldable pub rule : List ℕ → Outcome ℕ
rule ws = in_order (refusals ws) (gave (sum_of ws))

pub record Promise (ws : List ℕ) (r : Result ℕ Refusal) : Type 0 where
  pub answer : tells r ≡ rule ws
