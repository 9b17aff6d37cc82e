-- Making a tree: the copy of the weights and the gathering of the subtotals, a step at a time. What is not gathered yet keeps its sum, so no
-- step of the gathering exceeds u64 where the weights' sum does not. Assumes nothing.
use Rattle.std.proofs.Common.{ℕ, zero, suc, ◌+◌, ◌-◌, ◌/◌, ◌≤◌, ◌<◌, ◌^◌, arith, add-one, ◌≡◌, refl, sym, ap, ◌∙◌, List, [], ◌∷◌, ◌++◌, length, get_or, set, take, drop, take-suc, drop-cons, length-take-le, take_all, get_or-take}
use Rattle.std.proofs.Math.Seq.{set_at, append_snoc, take-set-lt, take-append_seam}
use Rattle.counting.specs.Sum.{sum_of}
use Rattle.counting.proofs.Sums.{sum_suc, sum_elem, sum_set}
use Rattle.weighted_tree.specs.Store.{Store}
use Rattle.weighted_tree.specs.New.{gathered}

-- ---- the copy
pub copy_begin : (ws s : List ℕ) → s ≡ take 0 ws ++ drop 0 s
copy_begin [] s = refl
copy_begin (x ∷ ws) s = refl

pub copy_step : (ws s l : List ℕ) (i : ℕ) → l ≡ take i ws ++ drop i s → i < length ws → i < length s → set l i (get_or ws i 0) ≡ take (i + 1) ws ++ drop (i + 1) s
copy_step ws s l i e h k =
    rw (e, add-one, drop-cons s i 0 k, take-suc ws i 0 h)
    (set_at (take i ws) (get_or s i 0) (drop (suc i) s) (get_or ws i 0) i (length-take-le i ws (omega arith))
    ∙ sym (append_snoc (take i ws) (get_or ws i 0) (drop (suc i) s)))

pub copy_end : (ws s l : List ℕ) (i : ℕ) → l ≡ take i ws ++ drop i s → i ≤ length ws → length ws ≤ i → l ≡ ws ++ drop (length ws) s
copy_end ws s l i e h k =
    let all : i ≡ length ws = omega arith in
    e ∙ rw (all, take_all (length ws) ws (omega arith))

-- the front of the store after the copy is the weights
pub copied : (ws s l : List ℕ) → l ≡ ws ++ drop (length ws) s → sum_of ws < 2 ^ 64 → sum_of (take (length ws) l) < 2 ^ 64
copied ws s l e k = rw (e, take-append_seam) k

-- ---- the gathering, from a cell k above 0 into its parent
pub gather_end : (s : Store) (i : ℕ) → i ≤ 1 → gathered (i - 1) s ≡ s
unfolding gathered
gather_end s i h = let e : i - 1 ≡ 0 = omega arith in rw e

-- the store after cell k was written into its parent
abbrev pub into : Store → ℕ → Store
into s k = set s ((k - 1) / 2) (get_or s ((k - 1) / 2) 0 + get_or s k 0)

pub gather_step : (s : Store) (k : ℕ) → 0 < k → gathered k s ≡ gathered (k - 1) (into s k)
unfolding gathered
gather_step s zero h = absurd (omega arith)
gather_step s (suc j) h = let e : suc j - 1 ≡ j = omega arith in rw e

pub gather_sum : (s : Store) (k : ℕ) → 0 < k → k < length s → sum_of (take k (into s k)) ≡ sum_of (take (k + 1) s)
gather_sum s k h q =
    let p = (k - 1) / 2 in
    let pk : p < k = omega arith in
    ap sum_of (take-set-lt k s p (get_or s p 0 + get_or s k 0) pk)
    ∙ ap (λ (x : ℕ). sum_of (set (take k s) p (x + get_or s k 0))) (sym (get_or-take k s p 0 pk))
    ∙ sum_set (take k s) p (get_or s k 0) (omega (arith, length-take-le k s (omega arith)))
    ∙ sym (sum_suc s k q)

pub gather_room : (s : Store) (k : ℕ) → 0 < k → k < length s → get_or s ((k - 1) / 2) 0 + get_or s k 0 ≤ sum_of (take (k + 1) s)
gather_room s k h q =
    let p = (k - 1) / 2 in
    omega (arith, sum_suc s k q, sum_elem (take k s) p, get_or-take k s p 0 (omega arith))
