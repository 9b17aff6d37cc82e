-- new, which makes a tree from weights: what it answers, and what it leaves.
use Rattle.std.specs.Prelude.{ℕ, zero, suc, ◌+◌, ◌-◌, ◌/◌, Bool, ◌≡◌, List, [], ◌∷◌, ◌++◌, length, get_or, set, drop}
use Rattle.counting.specs.Sum.{sum_of, exceeds_u64}
use Rattle.refusal.specs.Outcome.{Outcome, gave, in_order, leaves}
use Rattle.weighted_tree.specs.Store.{Store}
use Rattle.weighted_tree.specs.Tests.{too_many}
use Rattle.refusal.specs.Answers.{tells}
use Rattle.std.specs.Prelude.{Result}
use Rattle.refusal.specs.declared.Refusal.{Refusal}

-- making a tree 10, 4
abbrev pub refusals : Store → List ℕ → List (ℕ × Bool)
refusals s ws =
    (10, too_many s (length ws))
    ∷ (4, exceeds_u64 (sum_of ws))
    ∷ []

-- the count
unfoldable pub rule : Store → List ℕ → Outcome ℕ
rule s ws = in_order (refusals s ws) (gave (length ws))

-- each subtotal is written into its parent, from cell k down to cell 1: that of k + 1 is k / 2
unfoldable pub gathered : ℕ → Store → Store
gathered zero s = s
gathered (suc k) s = gathered k (set s (k / 2) (get_or s (k / 2) 0 + get_or s (suc k) 0))

-- the weights stand in the first cells, and are gathered from the last cell down
unfoldable pub changed : Store → List ℕ → Store
changed s ws = gathered (length ws - 1) (ws ++ drop (length ws) s)

pub record Promise (s : Store) (ws : List ℕ) (r : Result ℕ Refusal) (after : Store) : Type 0 where
  pub answer : tells r ≡ rule s ws
  pub store : after ≡ leaves (rule s ws) (changed s ws) s
