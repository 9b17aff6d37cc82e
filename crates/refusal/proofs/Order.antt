-- Refusals in order: a number is given exactly when its test holds and none before it does, a value exactly when no test holds, and a number
-- that the order does not list is never given. By going through the list; a number stands in it once. Assumes nothing.
use Prim.Native.Nat.{ℕ}
use mathlib.Core.Bool.{Bool, true, false, cond, not, ◌&&◌}
use mathlib.Core.Path.{◌≡◌, refl, sym, ap, ◌∙◌}
use mathlib.Core.List.{List, [], ◌∷◌, ◌++◌}
use mathlib.Core.Logic.{◌↔◌}
use native.Mathlib.Omega.{arith}
use borrow.Author.Tests.{eqb-true, eqb-false}
use lib.Dec.{eqb}
use Rattle.refusal.specs.Outcome.{Outcome, gave, refused, in_order, leaves, Exactly, None}

pub given_not_refused : {A : Type 0} (v : A) (k : ℕ) → gave v ≡ refused k → ⊥
given_not_refused v k e = let z : ◌≡◌ {A = ℕ} 0 1 = cc in omega arith

pub given_same : {A : Type 0} (v w : A) → gave v ≡ gave w → v ≡ w
given_same v w e = cc

other : {A : Type 0} (j k : ℕ) → eqb j k ≡ false → ◌≡◌ {A = Outcome A} (refused j) (refused k) → ⊥
other j k e p = eqb-false j k e (cc)

-- whether k stands nowhere in the order, and whether in one place at most
abbrev pub absent : ℕ → List (ℕ × Bool) → Bool
absent k [] = true
absent k ((j, holds) ∷ later) = not (eqb j k) && absent k later

abbrev pub once : ℕ → List (ℕ × Bool) → Bool
once k [] = true
once k ((j, holds) ∷ later) = cond (eqb j k) (absent k later) (once k later)

-- a number that stands nowhere is given exactly when no test holds and what follows the order gives it
pub after_all : {A : Type 0} (rs : List (ℕ × Bool)) (o : Outcome A) (k : ℕ) → absent k rs ≡ true → (in_order rs o ≡ refused k) ↔ (None rs × (o ≡ refused k))
after_all [] o k a = (λ e. (tt, e), λ h. h.1)
after_all ((j, holds) ∷ rs) o k a = go (eqb j k) refl holds a (after_all rs o k)
  where
    go : (t : Bool) → eqb j k ≡ t → (b : Bool) → (not t && absent k rs) ≡ true → (absent k rs ≡ true → (in_order rs o ≡ refused k) ↔ (None rs × (o ≡ refused k))) → (in_order ((j, b) ∷ rs) o ≡ refused k) ↔ (((b ≡ false) × None rs) × (o ≡ refused k))
    go true q b x f = let z : ◌≡◌ {A = Bool} false true = x in absurd (let w : ◌≡◌ {A = ℕ} 0 1 = cc in omega arith)
    go false q true x f = (λ e. absurd (other j k q e), λ h. let z : ◌≡◌ {A = Bool} true false = h.0.0 in cc)
    go false q false x f = (λ e. ((refl, ((f x).0 e).0), ((f x).0 e).1), λ h. (f x).1 (h.0.1, h.1))

-- a number is given exactly when its test holds and none before it does
pub refuses : {A : Type 0} (rs : List (ℕ × Bool)) (v : A) (k : ℕ) → once k rs ≡ true → (in_order rs (gave v) ≡ refused k) ↔ Exactly k rs
refuses [] v k o = (given_not_refused v k, λ e. absurd e)
refuses ((j, holds) ∷ rs) v k o = go (eqb j k) refl holds o (refuses rs v k)
  where
    go : (t : Bool) → eqb j k ≡ t → (b : Bool) → cond t (absent k rs) (once k rs) ≡ true → (once k rs ≡ true → (in_order rs (gave v) ≡ refused k) ↔ Exactly k rs) → (in_order ((j, b) ∷ rs) (gave v) ≡ refused k) ↔ cond t (b ≡ true) ((b ≡ false) × Exactly k rs)
    go true q true x f = (λ e. refl, λ h. ap refused (eqb-true j k q))
    go true q false x f = (λ e. absurd (given_not_refused v k ((after_all rs (gave v) k x).0 e).1), λ h. let z : ◌≡◌ {A = Bool} false true = h in cc)
    go false q true x f = (λ e. absurd (other j k q e), λ h. let z : ◌≡◌ {A = Bool} true false = h.0 in cc)
    go false q false x f = (λ e. (refl, (f x).0 e), λ h. (f x).1 h.1)

-- a value is given exactly when no test holds
pub gives : {A : Type 0} (rs : List (ℕ × Bool)) (v : A) → (in_order rs (gave v) ≡ gave v) ↔ None rs
gives [] v = (λ e. tt, λ n. refl)
gives ((j, true) ∷ rs) v = (λ e. absurd (given_not_refused v j (sym e)), λ n. let q : ◌≡◌ {A = Bool} true false = n.0 in cc)
gives ((j, false) ∷ rs) v = (λ e. (refl, (gives rs v).0 e), λ n. (gives rs v).1 n.1)

-- no test holds and the value is given, or some number is
pub data Ends {A : Type 0} (rs : List (ℕ × Bool)) (v : A) : Type 0 where
  ends_given : None rs → in_order rs (gave v) ≡ gave v → Ends rs v
  ends_refused : (k : ℕ) → in_order rs (gave v) ≡ refused k → Ends rs v

pub ends : {A : Type 0} (rs : List (ℕ × Bool)) (v : A) → Ends rs v
ends [] v = ends_given tt refl
ends ((j, true) ∷ rs) v = ends_refused j refl
ends ((j, false) ∷ rs) v = go (ends rs v)
  where
    go : Ends rs v → Ends ((j, false) ∷ rs) v
    go (ends_given n e) = ends_given (refl, n) e
    go (ends_refused k e) = ends_refused k e

pub given_means : {A : Type 0} (rs : List (ℕ × Bool)) (v u : A) → in_order rs (gave v) ≡ gave u → None rs × (v ≡ u)
given_means rs v u e = go (ends rs v)
  where
    go : Ends rs v → None rs × (v ≡ u)
    go (ends_given n q) = (n, given_same v u (sym q ∙ e))
    go (ends_refused k q) = absurd (given_not_refused u k (sym e ∙ q))

-- a call that is refused, and one that is not: what it comes to, and what it leaves
pub kept : {A B : Type 0} (rs : List (ℕ × Bool)) (v : A) (changed found : B) (k : ℕ) → once k rs ≡ true → Exactly k rs → (refused k ≡ in_order rs (gave v)) × (found ≡ leaves (in_order rs (gave v)) changed found)
kept rs v changed found k o x =
    let e = sym ((refuses rs v k o).1 x) in
    (e, ap (λ (y : Outcome _). leaves y changed found) e)

pub done : {A B : Type 0} (rs : List (ℕ × Bool)) (v : A) (changed found : B) → None rs → (gave v ≡ in_order rs (gave v)) × (changed ≡ leaves (in_order rs (gave v)) changed found)
done rs v changed found n =
    let e = sym ((gives rs v).1 n) in
    (e, ap (λ (y : Outcome _). leaves y changed found) e)

-- an order that goes on in another: what the first refuses is refused, and else it is as the second says
pub early : {A B : Type 0} (rs later : List (ℕ × Bool)) (v : B) (o : Outcome A) (k : ℕ) → refused k ≡ in_order rs (gave v) → refused k ≡ in_order (rs ++ later) o
early [] later v o k e = absurd (given_not_refused v k (sym e))
early ((j, true) ∷ rs) later v o k e = ap refused (cc)
early ((j, false) ∷ rs) later v o k e = early rs later v o k e

pub late : {A B : Type 0} (rs later : List (ℕ × Bool)) (v w : B) (o : Outcome A) → gave w ≡ in_order rs (gave v) → in_order (rs ++ later) o ≡ in_order later o
late [] later v w o e = refl
late ((j, true) ∷ rs) later v w o e = absurd (given_not_refused w j e)
late ((j, false) ∷ rs) later v w o e = late rs later v w o e

-- a number that stands nowhere is never given
pub never : {A : Type 0} (rs : List (ℕ × Bool)) (v : A) (k : ℕ) → absent k rs ≡ true → in_order rs (gave v) ≡ refused k → ⊥
never rs v k a e = given_not_refused v k ((after_all rs (gave v) k a).0 e).1
