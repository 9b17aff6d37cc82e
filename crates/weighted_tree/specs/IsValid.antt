-- is_valid: whether a tree can be drawn from.
use Rattle.std.specs.Prelude.{ℕ, Bool, ◌&&◌, ◌≡◌, List, [], ◌∷◌, ltb}
use Rattle.refusal.specs.Outcome.{Outcome, gave, in_order}
use Rattle.refusal.specs.Answers.{tells}
use Rattle.weighted_tree.specs.Store.{Store, total}
use Rattle.weighted_tree.specs.Tests.{bad_count}
use Rattle.std.specs.Prelude.{Result}
use Rattle.refusal.specs.declared.Refusal.{Refusal}

-- 7 refuses
abbrev pub refusals : Store → ℕ → List (ℕ × Bool)
refusals s n = (7, bad_count s n) ∷ []

-- yes exactly when the count is above 0 and so is cell 0
unfoldable pub rule : Store → ℕ → Outcome Bool
rule s n = in_order (refusals s n) (gave (ltb 0 n && ltb 0 (total s n)))

pub record Promise (s : Store) (n : ℕ) (r : Result Bool Refusal) : Type 0 where
  pub answer : tells r ≡ rule s n
