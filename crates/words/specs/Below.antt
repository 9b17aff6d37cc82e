-- Words into numbers: which words are accepted for a total T, and the number below T that a pool gives.
use Rattle.std.specs.Prelude.{◌≡◌, ℕ, ◌-◌, ◌%◌, ◌^◌, Bool, ◌&&◌, List, [], ◌∷◌, ◌==◌, nat_lt, slice_index, Result}
use Rattle.refusal.specs.Outcome.{Outcome, gave, in_order}
use Rattle.words.specs.First.{first}
use Rattle.refusal.specs.Answers.{tells}
use Rattle.refusal.specs.declared.Refusal.{Refusal}

-- for a T above 0, a word is accepted below 2^64 - (2^64 mod T)
unfoldable pub accepts : ℕ → ℕ → Bool
accepts T w = nat_lt 0 T && nat_lt w (2 ^ 64 - 2 ^ 64 % T)

-- the place of the first accepted word, counted from one; 0 where no word is accepted
abbrev pub place : ℕ → List ℕ → ℕ
place T pool = first (accepts T) pool

-- the word at that place, modulo T
abbrev pub target : ℕ → List ℕ → ℕ
target T pool = slice_index pool (place T pool - 1) % T

-- 12: the pool ends before a word is accepted
abbrev pub refusals : ℕ → List ℕ → List (ℕ × Bool)
refusals T pool = (12, (place T pool == 0)) ∷ []

-- the target, and the place
unfoldable pub rule : ℕ → List ℕ → Outcome (ℕ × ℕ)
rule T pool = in_order (refusals T pool) (gave (target T pool, place T pool))

pub record Promise (pool : List ℕ) (T : ℕ) (r : Result (ℕ × ℕ) Refusal) : Type 0 where
  pub answer : tells r ≡ rule T pool
