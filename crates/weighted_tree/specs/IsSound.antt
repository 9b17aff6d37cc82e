-- is_sound: the check of a whole store.
use Rattle.std.specs.Prelude.{ℕ, Bool, ◌≡◌, List, [], ◌∷◌}
use Rattle.refusal.specs.Outcome.{Outcome, gave, in_order}
use Rattle.refusal.specs.Answers.{tells}
use Rattle.weighted_tree.specs.Store.{Store}
use Rattle.weighted_tree.specs.Path.{indexes_below, sound_all}
use Rattle.weighted_tree.specs.Tests.{bad_count}
use Rattle.std.specs.Prelude.{Result}
use Rattle.refusal.specs.declared.Refusal.{Refusal}

-- 7 refuses
abbrev pub refusals : Store → ℕ → List (ℕ × Bool)
refusals s n = (7, bad_count s n) ∷ []

-- yes exactly when all cells below the count are sound
unfoldable pub rule : Store → ℕ → Outcome Bool
rule s n = in_order (refusals s n) (gave (sound_all s n (indexes_below n)))

pub record Promise (s : Store) (n : ℕ) (r : Result Bool Refusal) : Type 0 where
  pub answer : tells r ≡ rule s n
