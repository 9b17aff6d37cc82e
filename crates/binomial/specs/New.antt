-- The setup from n and p: the method that it gives, or why there is none.
use Rattle.std.specs.Prelude.{ℕ, Bool, cond, ◌||◌, ◌≡◌, List, [], ◌∷◌, Float, Result}
use Rattle.std.specs.Float.{binary64}
use Rattle.std.specs.Float.Ieee.{mul, lt, le, eq, is_nan}
use Rattle.refusal.specs.Outcome.{Outcome, gave, in_order}
use Rattle.refusal.specs.Answers.{tells}
use Rattle.refusal.specs.declared.Refusal.{Refusal}
use Rattle.binomial.specs.declared.Method.{Method}
use Rattle.binomial.specs.declared.Method.TheVariants.{Constant, Binv}
use Rattle.binomial.specs.Tests.{too_many_trials}
use Rattle.binomial.specs.Setup.{nought, one, ten, whole, smaller, complement, binv_of}

-- 5: p is below 0 or NaN (minus zero is 0)
abbrev pub too_small : Float → Bool
too_small p = lt p nought || is_nan p

-- 6: p is above 1
abbrev pub too_large : Float → Bool
too_large p = lt one p

-- 16: the f64 product of n and the smaller p is 10 or more
abbrev pub needs_btpe : ℕ → Float → Bool
needs_btpe n p = le ten (mul binary64 (whole n) (smaller p))

-- 17: q = 1 though p is not 0
abbrev pub needs_poisson : Float → Bool
needs_poisson p = eq (complement (smaller p)) one

-- binomial setup 5, 6, 15
abbrev pub refusals : ℕ → Float → List (ℕ × Bool)
refusals n p =
    (5, too_small p)
    ∷ (6, too_large p)
    ∷ (15, too_many_trials n)
    ∷ []

-- then the constants: p = 0 gives always 0, p = 1 always n
abbrev pub constants : ℕ → Float → Outcome Method → Outcome Method
constants n p later = cond (eq p nought) (gave (Constant 0)) (cond (eq p one) (gave (Constant n)) later)

-- then 16, 17
abbrev pub later_refusals : ℕ → Float → List (ℕ × Bool)
later_refusals n p =
    (16, needs_btpe n p)
    ∷ (17, needs_poisson p)
    ∷ []

unfoldable pub later_rule : ℕ → Float → Outcome Method
later_rule n p = in_order (later_refusals n p) (gave (Binv (binv_of n p)))

unfoldable pub rule : ℕ → Float → Outcome Method
rule n p = in_order (refusals n p) (constants n p (later_rule n p))

pub record Promise (n : ℕ) (p : Float) (r : Result Method Refusal) : Type 0 where
  pub answer : tells r ≡ rule n p
