-- The draw from words: the slot that a pool draws, and the words it consumes.
use Rattle.std.specs.Prelude.{ℕ, Bool, ◌≡◌, List, [], ◌∷◌, eqb}
use Rattle.refusal.specs.Outcome.{Outcome, gave, in_order, consumed}
use Rattle.refusal.specs.Answers.{tells}
use Rattle.refusal.specs.declared.Drawing.{Drawing}
use Rattle.words.specs.Below.{place, target}
use Rattle.weighted_tree.specs.Store.{Store, total}
use Rattle.weighted_tree.specs.Tests.{bad_count, no_total, damaged}
use Rattle.weighted_tree.specs.Walk.{walk_path, last_of}

-- the walk by the target that the pool gives below the total
abbrev pub draw_path : Store → ℕ → List ℕ → List ℕ
draw_path s n pool = walk_path s n (target (total s n) pool)

-- draw 7, 3, 12, 13
abbrev pub refusals : Store → ℕ → List ℕ → List (ℕ × Bool)
refusals s n pool =
    (7, bad_count s n)
    ∷ (3, no_total s n)
    ∷ (12, eqb (place (total s n) pool) 0)
    ∷ (13, damaged s n (draw_path s n pool))
    ∷ []

-- the last cell visited
unfoldable pub rule : Store → ℕ → List ℕ → Outcome ℕ
rule s n pool = in_order (refusals s n pool) (gave (last_of 0 (draw_path s n pool)))

-- the same with the place of the first accepted word beside it
unfoldable pub drawn : Store → ℕ → List ℕ → Outcome (ℕ × ℕ)
drawn s n pool = in_order (refusals s n pool) (gave (last_of 0 (draw_path s n pool), place (total s n) pool))

-- the words are the place of the first accepted word
pub record Promise (s : Store) (n : ℕ) (pool : List ℕ) (r : Drawing) : Type 0 where
  pub answer : tells r.outcome ≡ rule s n pool
  pub words : r.words ≡ consumed (rule s n pool) (place (total s n) pool)
