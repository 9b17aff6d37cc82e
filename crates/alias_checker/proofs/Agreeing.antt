-- The cells compared with the weights, pair by pair: each weight times n is a u64, since none is too heavy, and all pairs are equal where each cell is
-- n times its weight. Assumes nothing.
use Prim.Native.Nat.{ℕ, ◌*◌, ◌<◌, ◌^◌}
use native.Mathlib.Omega.{arith}
use mathlib.Core.Bool.{Bool, true, false}
use mathlib.Core.Path.{◌≡◌, sym, ap, ◌∙◌}
use mathlib.Core.List.{List}
use borrow.Author.Tests.{eq-eqb, ne_eqb}
use lib.Dec.{eqb}
use lib.ListN.{length, get_or}
use Rattle.std.specs.Bool.{MatchBool}
use Rattle.std.specs.List.{zip, AllWithin, HoldsAt}
use Rattle.std.proofs.lemmas.List.{get_or_read}
use Rattle.std.proofs.lemmas.Slice.Zip.{get_or-zip, length-zip}
use Rattle.counting.specs.Below.{all_below}
use Rattle.counting.proofs.Below.{all_true, all_false}
use Rattle.weighted_alias.specs.New.{Scales}

pub product_fits : (cells ws : List ℕ) (k : ℕ) (x : ℕ × ℕ) → Scales ws → k < length (zip cells ws) → x ≡ get_or (zip cells ws) k x → length ws * x.1 < 2 ^ 64
product_fits cells ws k x scales h e =
    let size = length-zip cells ws in
    let weight : x.1 ≡ get_or ws k x.1 = ap (λ (p : ℕ × ℕ). p.1) (e ∙ get_or-zip cells ws k x (omega arith) (omega arith)) in
    rw (← get_or_read ws k x.1 (omega arith) weight 0) at (scales k (omega arith))

pub agreed_all : (cells ws : List ℕ) (r : Bool) → length cells ≡ length ws
    → MatchBool r (AllWithin (λ p. p.0 ≡ length ws * p.1) (zip cells ws) 0 (length (zip cells ws))) ((k : ℕ) × (k < length (zip cells ws)) × HoldsAt (λ p. p.0 ≡ length ws * p.1 → ⊥) (zip cells ws) k)
    → r ≡ all_below (length ws) (λ i. eqb (get_or cells i 0) (length ws * get_or ws i 0))
agreed_all cells ws true long all =
    let size = length-zip cells ws in
    sym (all_true _ _ (λ i h. eq-eqb _ _ (rw (get_or-zip cells ws i (0, 0) (omega arith) h) at (all i (0, 0) (omega arith) (omega arith)))))
agreed_all cells ws false long one =
    let size = length-zip cells ws in
    let inside : one.0 < length ws = omega (arith, one.1) in
    sym (all_false _ _ one.0 inside (ne_eqb _ _ (rw (get_or-zip cells ws one.0 (0, 0) (omega arith) inside) at (one.2 (0, 0)))))
