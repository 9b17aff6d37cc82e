-- What is known of a number that is there on a condition, where `ok_or` and `?` let it through, and where they refuse it. By cases.
-- Assumes nothing.
use Rattle.std.proofs.Common.{ℕ, arith, Bool, true, false, ◌≡◌, refl}
use Rattle.std.specs.Prelude.{Option, Some, None, Ok, Err}
use Rattle.std.specs.Bool.{then_some}
use Rattle.std.specs.Option.{ok_or, SomeIff}
use Rattle.refusal.specs.declared.Refusal.{Refusal}

module _ (r : Refusal) (o : Option ℕ) where
  pub passed : {P : Type 0} (v x : ℕ) → Ok x ≡ ok_or o r → SomeIff o P v → P × (x ≡ v)
  passed v x e h = let q : o ≡ Some x = grind arith in rw q at h

  pub failed : {P : Type 0} (v : ℕ) (e : Refusal) → Err e ≡ ok_or o r → SomeIff o P v → P → ⊥
  failed v e u h = let q : o ≡ None = grind arith in rw q at h

  pub passed_if : (b : Bool) (v x : ℕ) → Ok x ≡ ok_or o r → o ≡ then_some b v → (b ≡ true) × (x ≡ v)
  passed_if true v x e h = grind arith
  passed_if false v x e h = grind arith

  pub failed_if : (b : Bool) (v : ℕ) (e : Refusal) → Err e ≡ ok_or o r → o ≡ then_some b v → b ≡ false
  failed_if true v e u h = grind arith
  failed_if false v e u h = refl
