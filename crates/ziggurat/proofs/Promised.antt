-- The words of a round go by what it ended with. Assumes nothing.
use Rattle.std.proofs.Common.{◌≡◌, refl, ap, ◌∙◌, Bool, true, false, List, [], ◌∷◌, ℕ}
use lib.Ieee.{Float}
use Rattle.std.specs.Prelude.{Result}
use Rattle.refusal.specs.Outcome.{Outcome, gave, in_order, consumed}
use Rattle.refusal.specs.Answers.{tells}
use Rattle.refusal.specs.declared.Refusal.{Refusal}
use Rattle.ziggurat.specs.declared.Rounded.{Rounded}
use Rattle.ziggurat.specs.declared.Rounding.{Rounding}
use Rattle.ziggurat.specs.Round as round
use Rattle.ziggurat.specs.Round.{words_of, used_by, Ended, shape}

-- the words of an order of refusals are those of what it gives
words_go : (rs : List (ℕ × Bool)) (s : Rounded) → consumed (in_order rs (gave s)) (used_by (in_order rs (gave s))) ≡ consumed (in_order rs (gave s)) (words_of s)
words_go [] s = refl
words_go ((k, true) ∷ rs) s = refl
words_go ((k, false) ∷ rs) s = words_go rs s

-- a round promises what it ended with
pub round_ends : (symmetric : Bool) (X F : List Float) (pool : List ℕ) (o : Result Rounded Refusal) (d : Rounding) → Ended o d → tells o ≡ round.rule symmetric X F pool → round.Promise symmetric X F pool d
unfolding round.rule
round_ends symmetric X F pool o d e p =
    record { answer = ap tells e.same ∙ p; words = e.words ∙ ap (λ (y : Outcome Rounded). consumed y (used_by y)) p ∙ words_go (round.refusals symmetric X F pool) (shape symmetric X F pool) }
