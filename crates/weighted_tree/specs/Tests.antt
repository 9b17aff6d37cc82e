-- The tests of the refusals, by the numbers and in the words of the table in docs/RULES.md.
use Rattle.std.specs.Prelude.{ℕ, Bool, not, ◌||◌, List, ltb, leb, eqb}
use Rattle.weighted_tree.specs.Store.{Store, room, total}
use Rattle.weighted_tree.specs.Path.{sound_all}

-- 3: the total is 0, as it is where the tree is empty
abbrev pub no_total : Store → ℕ → Bool
no_total s n = eqb (total s n) 0

-- 7: the count exceeds 4,096 or the lent length
unfoldable pub bad_count : Store → ℕ → Bool
bad_count s n = ltb 4096 n || ltb (room s) n

-- 8: the index is at or above the count
abbrev pub bad_index : ℕ → ℕ → Bool
bad_index n i = leb n i

-- 9: the target is at or above the total
abbrev pub bad_target : Store → ℕ → ℕ → Bool
bad_target s n t = leb (total s n) t

-- 10: push with the count at 4,096 or at the lent length
unfoldable pub full : Store → ℕ → Bool
full s n = eqb n 4096 || eqb n (room s)

-- 10: making a tree from more weights than that
abbrev pub too_many : Store → ℕ → Bool
too_many s weights = bad_count s weights

-- 11: pop at count 0
abbrev pub empty : ℕ → Bool
empty n = eqb n 0

-- 13: some cell on the path is unsound
unfoldable pub damaged : Store → ℕ → List ℕ → Bool
damaged s n path = not (sound_all s n path)
