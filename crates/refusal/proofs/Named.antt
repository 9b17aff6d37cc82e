-- No two refusals have one number, since each can be had back from its number; and an answer that can be had back from what it tells is
-- determined by it. Assumes nothing.
use Prim.Native.Nat.{ℕ, ◌-◌}
use mathlib.Core.Path.{◌≡◌, refl, sym, ap, ◌∙◌}
use mathlib.Core.List.{List, [], ◌∷◌}
use lib.ListN.{get_or}
use Rattle.std.specs.Prelude.{Result, Ok, Err}
use Rattle.refusal.specs.Number.{number}
use Rattle.refusal.specs.Outcome.{Outcome, gave, refused}
use Rattle.refusal.specs.Answers.{tells}
use Rattle.refusal.specs.declared.Refusal.{Refusal}
use Rattle.refusal.specs.declared.Refusal.TheVariants.{InvalidInput, InvalidWeight, InsufficientNonZero, Overflow, ProbabilityTooSmall, ProbabilityTooLarge, BadCount, BadIndex, BadTarget, Full, Empty, OutOfWords, Damaged, BadLength, TooManyTrials, NeedsBtpe, NeedsPoisson}
use Rattle.refusal.specs.declared.Drawing.{Drawing}

abbrev table : List Refusal
table = InvalidInput ∷ InvalidWeight ∷ InsufficientNonZero ∷ Overflow ∷ ProbabilityTooSmall ∷ ProbabilityTooLarge ∷ BadCount ∷ BadIndex ∷ BadTarget ∷ Full ∷ Empty ∷ OutOfWords ∷ Damaged ∷ BadLength ∷ TooManyTrials ∷ NeedsBtpe ∷ NeedsPoisson ∷ []

-- the refusal of a number
abbrev pub named : ℕ → Refusal
named k = get_or table (k - 1) InvalidInput

pub named_number : (r : Refusal) → named (number r) ≡ r
named_number InvalidInput = refl
named_number InvalidWeight = refl
named_number InsufficientNonZero = refl
named_number Overflow = refl
named_number ProbabilityTooSmall = refl
named_number ProbabilityTooLarge = refl
named_number BadCount = refl
named_number BadIndex = refl
named_number BadTarget = refl
named_number Full = refl
named_number Empty = refl
named_number OutOfWords = refl
named_number Damaged = refl
named_number BadLength = refl
named_number TooManyTrials = refl
named_number NeedsBtpe = refl
named_number NeedsPoisson = refl

pub number_injective : (a b : Refusal) → number a ≡ number b → a ≡ b
number_injective a b e = sym (named_number a) ∙ ap named e ∙ named_number b

-- two answers that tell the same are the same, where an answer can be had back from what it tells
pub determined : {A B : Type 0} (tells : A → Outcome B) (back : Outcome B → A) → ((a : A) → back (tells a) ≡ a) → {o : Outcome B} (a b : A) → tells a ≡ o → tells b ≡ o → a ≡ b
determined tells back h a b p q = sym (h a) ∙ ap back (p ∙ sym q) ∙ h b

-- ---- the answers
abbrev back : {A : Type 0} → Outcome A → Result A Refusal
back (gave v) = Ok v
back (refused k) = Err (named k)

back_lem : {A : Type 0} (a : Result A Refusal) → back (tells a) ≡ a
back_lem (Ok v) = refl
back_lem (Err r) = ap Err (named_number r)

pub answer_determined : {A : Type 0} {o : Outcome A} (a b : Result A Refusal) → tells a ≡ o → tells b ≡ o → a ≡ b
answer_determined = determined tells back back_lem

abbrev made : Result ℕ Refusal → ℕ → Drawing
made o k = record { outcome = o; words = k }

pub drawing_determined : {o : Outcome ℕ} {k : ℕ} (a b : Drawing) → tells a.outcome ≡ o → tells b.outcome ≡ o → a.words ≡ k → b.words ≡ k → a ≡ b
drawing_determined a b p q u v =
    ap (λ (o : Result ℕ Refusal). made o a.words) (answer_determined a.outcome b.outcome p q)
    ∙ ap (made b.outcome) (u ∙ sym v)
