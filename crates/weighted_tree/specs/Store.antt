-- How a store of subtotals is read as a tree of n cells, where cell i has the children 2i + 1 and 2i + 2.
use Rattle.std.specs.Prelude.{ℕ, ◌+◌, ◌*◌, ◌-◌, Bool, cond, List, ltb, leb, length, get_or}

abbrev pub Store : Type 0
Store = List ℕ

-- the lent length
abbrev pub room : Store → ℕ
room s = length s

-- cell i. At or beyond the count it reads 0, whatever lies there
unfoldable pub cell_at : Store → ℕ → ℕ → ℕ
cell_at s n i = cond (ltb i n) (get_or s i 0) 0

-- cell 0 so read is the total
abbrev pub total : Store → ℕ → ℕ
total s n = cell_at s n 0

-- what the children of cell i hold together
unfoldable pub children_at : Store → ℕ → ℕ → ℕ
children_at s n i = cell_at s n (2 * i + 1) + cell_at s n (2 * i + 2)

-- a cell is sound if its subtotal is at least its children's sum
unfoldable pub sound_at : Store → ℕ → ℕ → Bool
sound_at s n i = leb (children_at s n i) (cell_at s n i)

-- its weight is the difference
unfoldable pub weight_at : Store → ℕ → ℕ → ℕ
weight_at s n i = cell_at s n i - children_at s n i
