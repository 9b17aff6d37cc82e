-- What a store holds: sound cells, and the weights of its slots.
use Rattle.std.specs.Prelude.{ℕ, ◌≤◌, ◌<◌, Bool, true, false, ◌≡◌, List, eqb, length, get_or}
use Rattle.counting.specs.Below.{list_below}
use Rattle.refusal.specs.Outcome.{Outcome, gave, refused}
use Rattle.weighted_tree.specs.Store.{Store, cell_at, children_at, sound_at, weight_at}
use Rattle.weighted_tree.specs.Tests.{bad_count}

-- the count that a call leaves: the one that it answers, and where it is refused the one handed in
abbrev pub count_left : {A : Type 0} → (A → ℕ) → Outcome A → ℕ → ℕ
count_left counted (gave v) n = counted v
count_left counted (refused k) n = n

-- whether a call answers index i
abbrev pub answers : Outcome ℕ → ℕ → Bool
answers (gave j) i = eqb j i
answers (refused k) i = false

-- every cell below the count is at least its children's sum
abbrev pub Sound : Store → ℕ → Type 0
Sound s n = (i : ℕ) → i < n → children_at s n i ≤ cell_at s n i

-- the weights that a store shows
abbrev pub shown : Store → ℕ → List ℕ
shown s n = list_below n (weight_at s n)

-- the store, with its count, is a sound tree of the weights
pub record Holds (s : Store) (n : ℕ) (ws : List ℕ) : Type 0 where
  pub good : bad_count s n ≡ false
  pub sound : (i : ℕ) → sound_at s n i ≡ true
  pub long : length ws ≡ n
  pub weigh : (i : ℕ) → weight_at s n i ≡ get_or ws i 0
