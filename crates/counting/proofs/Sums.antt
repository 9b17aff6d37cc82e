-- Sums of lists: of a list and another, of a list's front, and after a change of one number. Each by going through the list. Assumes nothing.
use Prim.Native.Nat.{ℕ, zero, suc, ◌+◌, ◌≤◌, ◌<◌, ◌^◌}
use native.Mathlib.Omega.{arith}
use native.Mathlib.Numerals.{add-one}
use Rattle.std.specs.Prelude.{Some, None}
use mathlib.Core.Bool.{Bool, true, false, cond}
use mathlib.Core.Path.{◌≡◌, refl, ap, ◌∙◌}
use mathlib.Core.List.{List, [], ◌∷◌, ◌++◌}
use borrow.Author.Tests.{lt-ltb, le-ltb, ltb-false}
use lib.ListN.{length, get_or, set, take}
use lib.Seq.{take-suc, take_all}
use Rattle.counting.specs.Sum.{sum_of, exceeds_u64, summed}

pub sum_append : (a b : List ℕ) → sum_of (a ++ b) ≡ sum_of a + sum_of b
unfolding sum_of
sum_append [] b = omega arith
sum_append (x ∷ a) b = omega (arith, sum_append a b)

-- the sum of no numbers, of one more, and of all
pub sum_zero : (l : List ℕ) → sum_of (take 0 l) ≡ 0
unfolding sum_of
sum_zero [] = refl
sum_zero (x ∷ l) = refl

pub sum_suc : (l : List ℕ) (i : ℕ) → i < length l → sum_of (take (i + 1) l) ≡ sum_of (take i l) + get_or l i 0
unfolding sum_of
sum_suc l i h = rw (add-one, take-suc l i 0 h) (sum_append (take i l) (get_or l i 0 ∷ []) ∙ omega arith)

pub sum_all : (l : List ℕ) (i : ℕ) → length l ≤ i → sum_of (take i l) ≡ sum_of l
sum_all l i h = ap sum_of (take_all i l h)

-- a front's sum, and a number, are at most the whole's
pub sum_front : (i : ℕ) (l : List ℕ) → sum_of (take i l) ≤ sum_of l
unfolding sum_of
sum_front zero [] = omega arith
sum_front zero (x ∷ l) = omega arith
sum_front (suc i) [] = omega arith
sum_front (suc i) (x ∷ l) = omega (arith, sum_front i l)

pub sum_elem : (l : List ℕ) (i : ℕ) → get_or l i 0 ≤ sum_of l
unfolding sum_of
sum_elem [] i = omega arith
sum_elem (x ∷ l) zero = omega arith
sum_elem (x ∷ l) (suc i) = omega (arith, sum_elem l i)

pub sum_set : (l : List ℕ) (i v : ℕ) → i < length l → sum_of (set l i (get_or l i 0 + v)) ≡ sum_of l + v
unfolding sum_of
sum_set [] i v h = absurd (omega arith)
sum_set (x ∷ l) zero v h = omega arith
sum_set (x ∷ l) (suc i) v h = omega (arith, sum_set l i v (omega arith))

-- ---- whether a number is a u64
pub fits_u64 : (x : ℕ) → exceeds_u64 x ≡ false → x < 2 ^ 64
fits_u64 x e = omega (arith, ltb-false 18446744073709551615 x e)

-- ---- what the function of this crate answers
pub sum_exceeds : (l : List ℕ) (i sum : ℕ) → i < length l → sum ≡ sum_of (take i l) → (sum + get_or l i 0 < 2 ^ 64 → ⊥) → None ≡ summed (sum_of l)
sum_exceeds l i sum h e q = rw (lt-ltb 18446744073709551615 (sum_of l) (omega (arith, sum_suc l i h, sum_front (i + 1) l)))

pub sum_done : (l : List ℕ) (i sum : ℕ) → length l ≤ i → sum ≡ sum_of (take i l) → sum < 2 ^ 64 → Some sum ≡ summed (sum_of l)
sum_done l i sum h e q =
    let all : sum ≡ sum_of l = e ∙ sum_all l i h in
    rw (← all, le-ltb 18446744073709551615 sum (omega arith))

-- and what a caller learns from it
pub exceeds_means : (x : ℕ) → None ≡ summed x → exceeds_u64 x ≡ true
exceeds_means x e = go (exceeds_u64 x) refl e
  where
    go : (b : Bool) → exceeds_u64 x ≡ b → None ≡ cond b None (Some x) → exceeds_u64 x ≡ true
    go true q u = q
    go false q u = absurd (let z : ◌≡◌ {A = ℕ} 0 1 = cc in omega arith)

pub sum_means : (x k : ℕ) → Some k ≡ summed x → (exceeds_u64 x ≡ false) × (k ≡ x)
sum_means x k e = go (exceeds_u64 x) refl e
  where
    go : (b : Bool) → exceeds_u64 x ≡ b → Some k ≡ cond b None (Some x) → (exceeds_u64 x ≡ false) × (k ≡ x)
    go true q u = absurd (let z : ◌≡◌ {A = ℕ} 0 1 = cc in omega arith)
    go false q u = (q, cc)
