-- The draw from words: the index that a pool draws from a table, and the words it consumes.
use Rattle.std.specs.Prelude.{ℕ, ◌+◌, Bool, ◌||◌, ◌≡◌, Result, List, [], ◌∷◌, eqb, length, drop}
use Rattle.refusal.specs.Outcome.{Outcome, gave, in_order, consumed}
use Rattle.refusal.specs.Answers.{tells}
use Rattle.refusal.specs.declared.Drawing.{Drawing}
use Rattle.refusal.specs.declared.Refusal.{Refusal}
use Rattle.words.specs.Below.{place, target}
use Rattle.weighted_alias.specs.Tests.{no_slots, no_total, too_many, bad_length}
use Rattle.weighted_alias.specs.Pair.{drawn_by, far_link}

-- the slot comes first, and the number below S from the words after it
abbrev pub after : ℕ → List ℕ → List ℕ
after n pool = drop (place n pool) pool

-- draw 1, 10, 14, 3, 12, 13
abbrev pub refusals : List ℕ → List ℕ → ℕ → List ℕ → List (ℕ × Bool)
refusals odds links S pool =
    let n = length odds in
    (1, no_slots n)
    ∷ (10, too_many n)
    ∷ (14, bad_length n (length links))
    ∷ (3, no_total S)
    ∷ (12, eqb (place n pool) 0 || eqb (place S (after n pool)) 0)
    ∷ (13, far_link odds links (target n pool) (target S (after n pool)))
    ∷ []

-- what the pair of the slot and the number draws
unfoldable pub rule : List ℕ → List ℕ → ℕ → List ℕ → Outcome ℕ
rule odds links S pool =
    in_order (refusals odds links S pool) (gave (drawn_by odds links (target (length odds) pool) (target S (after (length odds) pool))))

-- the words of both
pub record Promise (odds links : List ℕ) (S : ℕ) (pool : List ℕ) (r : Drawing) : Type 0 where
  pub answer : tells r.outcome ≡ rule odds links S pool
  pub words : r.words ≡ consumed (rule odds links S pool) (place (length odds) pool + place S (after (length odds) pool))

-- ---- what the inner call answers: the index, and the words of both beside it
abbrev pub found : List ℕ → List ℕ → ℕ → List ℕ → ℕ × ℕ
found odds links S pool =
    let n = length odds in
    (drawn_by odds links (target n pool) (target S (after n pool)), place n pool + place S (after n pool))

pub record Drawn (odds links : List ℕ) (S : ℕ) (pool : List ℕ) (r : Result (ℕ × ℕ) Refusal) : Type 0 where
  pub answer : tells r ≡ in_order (refusals odds links S pool) (gave (found odds links S pool))
