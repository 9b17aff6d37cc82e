-- What a built table is, and what it is for a table to draw each index as often as its weight says.
use Rattle.std.specs.Prelude.{ℕ, ◌*◌, ◌<◌, ◌≡◌, List, length, get_or, Result}
use Rattle.refusal.specs.Outcome.{gave}
use Rattle.refusal.specs.Answers.{tells}
use Rattle.refusal.specs.declared.Refusal.{Refusal}
use Rattle.weighted_alias.specs.New as new
use Rattle.alias_checker.specs.Check.{pairs_drawing}

-- the builder doesn't refuse the weights, lent tables of their length, and answers S
abbrev pub Takes : List ℕ → ℕ → Type 0
Takes ws S = new.rule ws (length ws) (length ws) ≡ gave S

-- a call of the builder that answered S left these odds and links, whatever it found there
pub record Built (ws odds links : List ℕ) (S : ℕ) : Type 0 where
  pub odds_found : List ℕ
  pub links_found : List ℕ
  pub answer : Result ℕ Refusal
  pub promise : new.Promise ws odds_found links_found answer odds links
  pub given : tells answer ≡ gave S

-- of the n times S pairs (slot below n, number below S) exactly n times weight i draw index i, for every i
abbrev pub DrawsEach : List ℕ → ℕ → List ℕ → List ℕ → Type 0
DrawsEach ws S odds links = (i : ℕ) → i < length ws → pairs_drawing odds links S i ≡ length ws * get_or ws i 0
