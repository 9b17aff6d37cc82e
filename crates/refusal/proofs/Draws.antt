-- A draw of an order that gives the words beside the index answers as the order of the index alone, and reports those words or none: by going
-- through the order. Assumes nothing.
use Prim.Native.Nat.{ℕ}
use Rattle.std.specs.Prelude.{Result, Ok, Err}
use mathlib.Core.Bool.{Bool, true, false}
use mathlib.Core.Path.{◌≡◌, refl, sym, ap}
use mathlib.Core.List.{List, [], ◌∷◌}
use Rattle.refusal.specs.Number.{number}
use Rattle.refusal.specs.Outcome.{Outcome, gave, refused, in_order, consumed}
use Rattle.refusal.specs.Answers.{tells, drawing}
use Rattle.refusal.specs.declared.Refusal.{Refusal}
use Rattle.refusal.specs.declared.Drawing.{Drawing}
use Rattle.refusal.proofs.Order.{given_not_refused, given_same}

-- what a draw is to answer and to report
abbrev Draws : Outcome ℕ → ℕ → Drawing → Type 0
Draws rule words d = (tells d.outcome ≡ rule) × (d.words ≡ consumed rule words)

drawing_is : (rs : List (ℕ × Bool)) (i k : ℕ) (o : Result (ℕ × ℕ) Refusal) → tells o ≡ in_order rs (gave (i, k)) → Draws (in_order rs (gave i)) k (drawing o)
drawing_is [] i k (Ok (index, words)) e =
    let same = given_same (index, words) (i, k) e in
    (ap (λ (x : ℕ × ℕ). gave x.0) same, ap (λ (x : ℕ × ℕ). x.1) same)
drawing_is [] i k (Err r) e = absurd (given_not_refused _ _ (sym e))
drawing_is ((j, true) ∷ rs) i k (Ok (index, words)) e = absurd (given_not_refused _ _ e)
drawing_is ((j, true) ∷ rs) i k (Err r) e = let same : number r ≡ j = cc in (ap refused same, refl)
drawing_is ((j, false) ∷ rs) i k o e = drawing_is rs i k o e

pub draws : (rs : List (ℕ × Bool)) (i k : ℕ) (o : Result (ℕ × ℕ) Refusal) → tells o ≡ in_order rs (gave (i, k)) → (d : Drawing) → d ≡ drawing o → Draws (in_order rs (gave i)) k d
draws rs i k o e d h = rw h (drawing_is rs i k o e)
