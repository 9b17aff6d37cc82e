-- Reading cells: below and beyond the count, whether a cell is sound, and what a count that is not refused means. Assumes nothing.
use Rattle.std.proofs.Common.{ℕ, ◌+◌, ◌*◌, ◌≤◌, ◌<◌, ◌^◌, arith, Bool, true, false, ◌≡◌, refl, lt-ltb, le-ltb, le-leb, leb-true, ltb-true, ltb-false, ltb, length, get_or}
use Rattle.std.proofs.lemmas.Bool.{eqb-false, or_parts}
use Rattle.weighted_tree.specs.Store.{Store, cell_at, children_at, sound_at, weight_at}
use Rattle.weighted_tree.specs.Step.{covers}
use Rattle.weighted_tree.specs.Tests.{bad_count, full}

-- ---- cells
pub cell_in : (s : Store) (n i : ℕ) → i < n → cell_at s n i ≡ get_or s i 0
unfolding cell_at
cell_in s n i h = rw (lt-ltb i n h)

pub cell_out : (s : Store) (n i : ℕ) → n ≤ i → cell_at s n i ≡ 0
unfolding cell_at
cell_out s n i h = rw (le-ltb i n h)

-- a cell that holds something is below the count
pub cell_some : (s : Store) (n i : ℕ) → 0 < cell_at s n i → i < n
cell_some s n i h = go (ltb i n) refl
  where
    go : (b : Bool) → ltb i n ≡ b → i < n
    go true e = ltb-true i n e
    go false e = absurd (omega (arith, cell_out s n i (ltb-false i n e)))

-- the cells of a store of u64 are u64
pub cell_fits : (s : Store) (n i : ℕ) → ((k : ℕ) → get_or s k 0 < 2 ^ 64) → cell_at s n i < 2 ^ 64
cell_fits s n i h = go (ltb i n) refl
  where
    go : (b : Bool) → ltb i n ≡ b → cell_at s n i < 2 ^ 64
    go true e = omega (arith, cell_in s n i (ltb-true i n e), h i)
    go false e = omega (arith, cell_out s n i (ltb-false i n e))

-- ---- soundness
pub sound_is : (s : Store) (n i : ℕ) → sound_at s n i ≡ covers (cell_at s n i) (cell_at s n (2 * i + 1)) (cell_at s n (2 * i + 2))
unfolding sound_at children_at
sound_is s n i = refl

pub sound_le : (s : Store) (n i : ℕ) → sound_at s n i ≡ true → cell_at s n (2 * i + 1) + cell_at s n (2 * i + 2) ≤ cell_at s n i
unfolding sound_at children_at
sound_le s n i e = leb-true _ _ e

pub sound_of : (s : Store) (n i : ℕ) → cell_at s n (2 * i + 1) + cell_at s n (2 * i + 2) ≤ cell_at s n i → sound_at s n i ≡ true
unfolding sound_at children_at
sound_of s n i h = le-leb _ _ h

-- beyond the count everything reads 0, and is sound
pub sound_beyond : (s : Store) (n i : ℕ) → n ≤ i → sound_at s n i ≡ true
sound_beyond s n i h = sound_of s n i (omega (arith, cell_out s n (2 * i + 1) (omega arith), cell_out s n (2 * i + 2) (omega arith)))

-- ---- weights
pub weight_le : (s : Store) (n i : ℕ) → weight_at s n i ≤ cell_at s n i
unfolding weight_at
weight_le s n i = omega arith

pub weight_beyond : (s : Store) (n i : ℕ) → n ≤ i → weight_at s n i ≡ 0
weight_beyond s n i h = omega (arith, weight_le s n i, cell_out s n i h)

-- ---- counts
pub good_count : (s : Store) (n : ℕ) → bad_count s n ≡ false → (n ≤ 4096) × (n ≤ length s)
unfolding bad_count
good_count s n e = let h = or_parts _ _ e in (ltb-false _ _ h.0, ltb-false _ _ h.1)

pub count_good : (s : Store) (n : ℕ) → n ≤ 4096 → n ≤ length s → bad_count s n ≡ false
unfolding bad_count
count_good s n h k = rw (le-ltb 4096 n h, le-ltb (length s) n k)

pub has_room : (s : Store) (n : ℕ) → bad_count s n ≡ false → full s n ≡ false → (n < 4096) × (n < length s)
unfolding full
has_room s n g e =
    let h = or_parts _ _ e in
    let c = good_count s n g in
    (below c.0 (eqb-false _ _ h.0), below c.1 (eqb-false _ _ h.1))
  where
    below : {a b : ℕ} → a ≤ b → (a ≡ b → ⊥) → a < b
    below {a} {b} h ne = go (ltb a b) refl
      where
        go : (t : Bool) → ltb a b ≡ t → a < b
        go true e = ltb-true a b e
        go false e = absurd (ne (omega (arith, ltb-false a b e)))
