-- check: whether a table draws each index as often as its weight says.
use Rattle.std.specs.Prelude.{ℕ, ◌*◌, Bool, cond, ◌||◌, ◌≡◌, List, [], ◌∷◌, eqb, length, get_or, replicate}
use Rattle.counting.specs.Sum.{sum_of}
use Rattle.counting.specs.Below.{sum_below, how_many, all_below}
use Rattle.refusal.specs.Outcome.{Outcome, gave, in_order, leaves}
use Rattle.refusal.specs.Answers.{tells}
use Rattle.weighted_alias.specs.Tests.{no_slots, too_heavy, no_total, too_many, bad_length}
use Rattle.weighted_alias.specs.Pair.{drawn_by}
use Rattle.weighted_alias.specs.New.{scaled, Scales}
use Rattle.std.specs.Prelude.{Result}
use Rattle.refusal.specs.declared.Refusal.{Refusal}

-- of the n times S pairs (slot below n, number below S), how many draw i
unfoldable pub pairs_drawing : List ℕ → List ℕ → ℕ → ℕ → ℕ
pairs_drawing odds links S i = sum_below (length odds) (λ c. how_many S (λ t. eqb (drawn_by odds links c t) i))

-- exactly n times weight i draw index i, for every i
unfoldable pub fair : List ℕ → List ℕ → List ℕ → Bool
fair ws odds links = all_below (length ws) (λ i. eqb (pairs_drawing odds links (sum_of ws) i) (length ws * get_or ws i 0))

-- checker 1, 10, 14, 2, 3
abbrev pub refusals : List ℕ → ℕ → ℕ → ℕ → List (ℕ × Bool)
refusals ws odds links work =
    (1, no_slots (length ws))
    ∷ (10, too_many (length ws))
    ∷ (14, (bad_length (length ws) odds || bad_length (length ws) links) || bad_length (length ws) work)
    ∷ (2, too_heavy ws)
    ∷ (3, no_total (sum_of ws))
    ∷ []

-- yes or no, where `work` is a length
unfoldable pub rule : List ℕ → List ℕ → List ℕ → ℕ → Outcome Bool
rule ws odds links work = in_order (refusals ws (length odds) (length links) work) (gave (fair ws odds links))

-- after yes n times each weight, after no zeros
unfoldable pub changed : List ℕ → List ℕ → List ℕ → List ℕ
changed ws odds links = cond (fair ws odds links) (scaled ws) (replicate (length ws) 0)

pub record Promise (ws odds links work : List ℕ) (r : Result Bool Refusal) (after : List ℕ) : Type 0 where
  pub answer : tells r ≡ rule ws odds links (length work)
  pub work_is : after ≡ leaves (rule ws odds links (length work)) (changed ws odds links) work

-- ---- what the code's parts want and leave, where nothing is refused
pub record Judges (ws : List ℕ) (odds work S : ℕ) : Type 0 where
  pub odds_long : odds ≡ length ws
  pub work_long : work ≡ length ws
  pub sum : S ≡ sum_of ws
  pub scales : Scales ws

pub record Judged (ws odds links : List ℕ) (r : Bool) (after : List ℕ) : Type 0 where
  pub answer : r ≡ fair ws odds links
  pub work_is : after ≡ changed ws odds links
