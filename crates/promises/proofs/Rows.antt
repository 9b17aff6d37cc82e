-- A call's refusals in order are its rows in order: each test of a definition says what its row says in arithmetic, so the first test that holds
-- is the first row whose case holds. Assumes nothing.
use Prim.Native.Nat.{ℕ, ◌<◌, ◌≤◌}
use mathlib.Core.Bool.{Bool, true, false, not, ◌&&◌, ◌||◌}
use mathlib.Core.Path.{◌≡◌, refl, sym, ap, ◌∙◌}
use mathlib.Core.Logic.{◌⊎◌, inl, inr, ⊎_elim, ◌↔◌}
use mathlib.Core.List.{List, [], ◌∷◌}
use Rattle.std.proofs.lemmas.Bool.{true≢false, not-true, not_from_false, lt-ltb, le-leb, eq-eqb, eqb-true, ltb-true, leb-true}
use lib.Dec.{ltb, leb, eqb}
use Rattle.counting.specs.Below.{some_below}
use Rattle.counting.proofs.Below.{some_true, some_found}
use Rattle.refusal.specs.Outcome.{Outcome, gave, refused, in_order, leaves}
use Rattle.refusal.proofs.Order.{given_not_refused}
use Rattle.promises.specs.Rows.{Table, FirstIs, GivenBy, RefusedBy}

-- ---- a test that says what a case says
abbrev pub Says : Bool → Type 0 → Type 0
Says test Case = (test ≡ true) ↔ Case

pub clash : (b : Bool) → b ≡ true → b ≡ false → ⊥
clash b e q = true≢false (sym e ∙ q)

pub says_less : (a b : ℕ) → Says (ltb a b) (a < b)
says_less a b = (ltb-true a b, lt-ltb a b)

pub says_most : (a b : ℕ) → Says (leb a b) (a ≤ b)
says_most a b = (leb-true a b, le-leb a b)

pub says_is : (a b : ℕ) → Says (eqb a b) (a ≡ b)
says_is a b = (eqb-true a b, eq-eqb a b)

pub says_itself : (b : Bool) → Says b (b ≡ true)
says_itself b = (λ e. e, λ e. e)

pub says_false : (b : Bool) → Says (not b) (b ≡ false)
says_false b = (not-true b, not_from_false b)

pub says_not : (b : Bool) {Case : Type 0} → Says b Case → Says (not b) (Case → ⊥)
says_not true {Case} f = (λ e. absurd (clash false e refl), λ h. absurd (h (f.0 refl)))
says_not false {Case} f = (λ e c. clash false (f.1 c) refl, λ h. refl)

pub says_or : (a b : Bool) {A B : Type 0} → Says a A → Says b B → Says (a || b) (A ⊎ B)
says_or true b {A} {B} f g = (λ e. inl (f.0 refl), λ h. refl)
says_or false b {A} {B} f g = (λ e. inr (g.0 e), λ h. ⊎_elim (λ (x : A). absurd (clash false (f.1 x) refl)) (λ (y : B). g.1 y) h)

pub says_and : (a b : Bool) {A B : Type 0} → Says a A → Says b B → Says (a && b) (A × B)
says_and true b {A} {B} f g = (λ e. (f.0 refl, g.0 e), λ h. g.1 h.1)
says_and false b {A} {B} f g = (λ e. absurd (clash false e refl), λ h. absurd (clash false (f.1 h.0) refl))

-- some number below n
pub says_some : (n : ℕ) (test : ℕ → Bool) {Case : ℕ → Type 0} → ((i : ℕ) → Says (test i) (Case i)) → Says (some_below n test) ((i : ℕ) × (i < n) × Case i)
says_some n test {Case} f =
    (λ e. let found = some_found n test e in (found.0, found.1, (f found.0).0 found.2), λ h. some_true n test h.0 h.1 ((f h.0).1 h.2))

-- a case said in other words
pub says_as : {b : Bool} {A B : Type 0} → Says b A → (A → B) → (B → A) → Says b B
says_as f to from = (λ e. to (f.0 e), λ h. f.1 (from h))

-- ---- the tests in order say what the rows do
abbrev pub Same : List (ℕ × Bool) → Table → Type 0
Same [] [] = Unit {0}
Same [] (row ∷ rows) = ⊥
Same (test ∷ tests) [] = ⊥
Same ((k, holds) ∷ tests) ((j, Case) ∷ rows) = (k ≡ j) × Says holds Case × Same tests rows

pub rows_order : {A : Type 0} (v : A) (k : ℕ) (tests : List (ℕ × Bool)) (rows : Table) → Same tests rows → (in_order tests (gave v) ≡ refused k) ↔ FirstIs k rows
rows_order v k [] [] s = (given_not_refused v k, λ e. absurd e)
rows_order v k [] (row ∷ rows) s = absurd s
rows_order v k (test ∷ tests) [] s = absurd s
rows_order {A} v k ((i, true) ∷ tests) ((j, Case) ∷ rows) (same, says, s) =
    (λ e. inl (sym same ∙ number e, says.0 refl), λ h. ⊎_elim (λ (x : (j ≡ k) × Case). ap refused (same ∙ x.0)) (λ (y : (Case → ⊥) × FirstIs k rows). absurd (y.0 (says.0 refl))) h)
  where
    number : ◌≡◌ {A = Outcome A} (refused i) (refused k) → i ≡ k
    number e = cc
rows_order {A} v k ((i, false) ∷ tests) ((j, Case) ∷ rows) (same, says, s) =
    (λ e. inr (none, (rows_order v k tests rows s).0 e), λ h. ⊎_elim (λ (x : (j ≡ k) × Case). absurd (none x.1)) (λ (y : (Case → ⊥) × FirstIs k rows). (rows_order v k tests rows s).1 y.1) h)
  where
    none : Case → ⊥
    none c = clash false (says.1 c) refl

-- ---- a call with such refusals
pub rows_given : {A : Type 0} (o : Outcome A) (v : A) (tests : List (ℕ × Bool)) (rows : Table) → o ≡ in_order tests (gave v) → Same tests rows → GivenBy rows o
rows_given o v tests rows p s k = (λ e. (rows_order v k tests rows s).0 (sym p ∙ e), λ h. p ∙ (rows_order v k tests rows s).1 h)

pub rows_kept : {A B : Type 0} (o : Outcome A) (v : A) (tests : List (ℕ × Bool)) (rows : Table) (changed found after : B) → o ≡ in_order tests (gave v)
    → after ≡ leaves (in_order tests (gave v)) changed found → Same tests rows → RefusedBy rows o found after
rows_kept o v tests rows changed found after p q s =
    record { given = rows_given o v tests rows p s; kept = λ k e. q ∙ (rw (sym p ∙ e)) }
