-- The way from a cell up to cell 0: the parents of the cell, whether they are sound, and what a call changes along them.
use Rattle.std.specs.Prelude.{ℕ, zero, suc, ◌+◌, ◌-◌, ◌/◌, ◌^◌, ◌≤◌, ◌<◌, Bool, true, ◌&&◌, List, [], ◌∷◌, get_or, set}
use Rattle.weighted_tree.specs.Store.{Store, sound_at}

-- the parents of cell i, at most f of them: the parent of i is (i - 1) / 2
unfoldable pub parents_in : ℕ → ℕ → List ℕ
parents_in zero i = []
parents_in (suc f) zero = []
parents_in (suc f) (suc i) = i / 2 ∷ parents_in f (i / 2)

-- the parents of cell i up to cell 0. Each is below the last, so there are at most i
unfoldable pub parents : ℕ → List ℕ
parents i = parents_in i i

-- cell i and its parents
abbrev pub path_of : ℕ → List ℕ
path_of i = i ∷ parents i

-- all cells below k
abbrev pub indexes_below : ℕ → List ℕ
indexes_below zero = []
indexes_below (suc k) = k ∷ indexes_below k

-- each cell of a path is sound
unfoldable pub sound_all : Store → ℕ → List ℕ → Bool
sound_all s n [] = true
sound_all s n (i ∷ path) = sound_at s n i && sound_all s n path

-- each cell of a path rises and falls by so much
unfoldable pub change_all : Store → ℕ → ℕ → List ℕ → Store
change_all s rise fall [] = s
change_all s rise fall (i ∷ path) = change_all (set s i (get_or s i 0 + rise - fall)) rise fall path

-- each cell of a path has a property
unfoldable pub Each : (ℕ → Type 0) → Store → List ℕ → Type 0
Each P s [] = Unit {0}
Each P s (i ∷ path) = P (get_or s i 0) × Each P s path

-- a cell has room for the rise, and then enough for the fall: what the loop along a path asks of its callers in this crate
abbrev pub CanChange : ℕ → ℕ → ℕ → Type 0
CanChange rise fall x = (x + rise < 2 ^ 64) × (fall ≤ x + rise)
