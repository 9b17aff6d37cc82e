-- The two lists as the code has them: their heads, and the links that they run through. And what its loops want of them.
use Rattle.std.specs.Prelude.{ℕ, zero, suc, ◌+◌, ◌-◌, ◌<◌, ◌≤◌, cond, ◌≡◌, List, [], ◌∷◌, map, ltb, eqb, length, get_or, set}
use Rattle.counting.specs.Sum.{sum_of}
use Rattle.counting.specs.Below.{sum_below}
use Rattle.weighted_alias.specs.declared.aliases.Aliases.{Aliases}
use Rattle.weighted_alias.specs.New.{Making, making, head_of, split, pair_up, settle}

-- the heads of both
pub record Heads : Type 0 where
  pub small : ℕ
  pub big : ℕ

abbrev pub heads : Aliases → Heads
heads a = record { small = a.small; big = a.big }

-- the list runs through the links from a head
unfoldable pub Chained : List ℕ → ℕ → List ℕ → Type 0
Chained links h [] = h ≡ 4294967295
Chained links h (x ∷ xs) = (h ≡ x) × (x < length links) × Chained links (get_or links x 0) xs

-- the list that runs so, of at most k slots
unfoldable pub chain : ℕ → List ℕ → ℕ → List ℕ
chain zero links h = []
chain (suc k) links h = let later = chain k links (get_or links h 0) in cond (eqb h 4294967295) [] (h ∷ later)

-- the table in the making that the code has before it
abbrev pub listed : List ℕ → List ℕ → Heads → Making
listed odds links h = making odds links (chain (length odds) links h.small) (chain (length odds) links h.big)

pub record Runs (t : Making) (h : Heads) : Type 0 where
  pub smalls : Chained t.links h.small t.small
  pub bigs : Chained t.links h.big t.big

-- ---- each slot stands in one place
-- the sum of a number for each slot of a list
abbrev pub over : (ℕ → ℕ) → List ℕ → ℕ
over f xs = sum_of (map f xs)

abbrev pub once : ℕ → ℕ → ℕ
once x c = cond (eqb x c) 1 0

abbrev pub is_low : ℕ → List ℕ → ℕ → ℕ
is_low S odds c = cond (ltb (get_or odds c 0) S) 1 0

abbrev pub not_low : ℕ → List ℕ → ℕ → ℕ
not_low S odds c = cond (ltb (get_or odds c 0) S) 0 1

-- the slots below n are those done, the small and the big, each once: whatever is summed over them
pub record Sorted (n S : ℕ) (t : Making) (done : List ℕ) : Type 0 where
  pub cover : (f : ℕ → ℕ) → sum_below n f ≡ over f done + (over f t.small + over f t.big)
  pub low : over (not_low S t.odds) t.small ≡ 0
  pub high : over (is_low S t.odds) t.big ≡ 0

-- ---- what the code's parts want and leave
-- what `push` leaves
pub record Pushed (S : ℕ) (odds links : List ℕ) (h : Heads) (x : ℕ) (r : Heads) (after : List ℕ) : Type 0 where
  pub small : r.small ≡ cond (ltb (get_or odds x 0) S) x h.small
  pub big : r.big ≡ cond (ltb (get_or odds x 0) S) h.big x
  pub links_are : after ≡ set links x (cond (ltb (get_or odds x 0) S) h.small h.big)

-- what `split` leaves once the slots below i are on their lists
abbrev pub unlisted : List ℕ → List ℕ → Making
unlisted odds links = making odds links [] []

pub record Split (S : ℕ) (odds links : List ℕ) (i : ℕ) (after : List ℕ) (h : Heads) : Type 0 where
  pub small : h.small ≡ head_of (split S i (unlisted odds links)).small
  pub big : h.big ≡ head_of (split S i (unlisted odds links)).big
  pub links_are : after ≡ (split S i (unlisted odds links)).links

-- what a turn of the pairing wants
pub record Turn (S : ℕ) (odds links : List ℕ) (h : Heads) : Type 0 where
  pub few : length odds ≤ 4096
  pub long : length links ≡ length odds
  pub small_in : h.small < length odds
  pub big_in : h.big < length odds
  pub less : get_or odds h.small 0 < S
  pub more : S ≤ get_or odds h.big 0

-- and what it leaves: the big slot, its odds changed, is put on its list
abbrev pub rest_heads : List ℕ → Heads → Heads
rest_heads links h = record { small = get_or links h.small 0; big = get_or links h.big 0 }

abbrev pub odds_turned : ℕ → List ℕ → Heads → List ℕ
odds_turned S odds h = set odds h.big (get_or odds h.big 0 - S + get_or odds h.small 0)

pub record Turned (S : ℕ) (odds links : List ℕ) (h : Heads) (odds_after links_after : List ℕ) (r : Heads) : Type 0 where
  pub odds_are : odds_after ≡ odds_turned S odds h
  pub pushed : Pushed S (odds_turned S odds h) (set links h.small h.big) (rest_heads links h) h.big r links_after

-- what the pairing wants
pub record Ready (S : ℕ) (odds links : List ℕ) (h : Heads) : Type 0 where
  pub few : length odds ≤ 4096
  pub long : length links ≡ length odds
  pub done : List ℕ
  pub sorted : Sorted (length odds) S (listed odds links h) done
  pub runs : Runs (listed odds links h) h

-- and what it leaves
pub record Left (t : Making) (odds links : List ℕ) (h : Heads) : Type 0 where
  pub odds_are : odds ≡ t.odds
  pub links_are : links ≡ t.links
  pub runs : Runs t h
  pub short : length t.small + length t.big ≤ length odds

-- what the settling of a list wants
pub record Settles (odds links : List ℕ) (h : ℕ) : Type 0 where
  pub few : length odds ≤ 4096
  pub long : length links ≡ length odds
  pub runs : Chained links h (chain (length odds) links h)

-- ---- what the code's methods leave, which keep the slices and the sum that they were handed
pub record Kept (was is : Aliases) : Type 0 where
  pub odds : is.odds.ghost_name ≡ was.odds.ghost_name
  pub links : is.links.ghost_name ≡ was.links.ghost_name
  pub sum : is.sum ≡ was.sum

pub record Pushes (was : Aliases) (x : ℕ) (is : Aliases) : Type 0 where
  pub kept : Kept was is
  pub odds_are : is.odds.now ≡ was.odds.now
  pub pushed : Pushed was.sum was.odds.now was.links.now (heads was) x (heads is) is.links.now

pub record Turns (was is : Aliases) : Type 0 where
  pub kept : Kept was is
  pub turned : Turned was.sum was.odds.now was.links.now (heads was) is.odds.now is.links.now (heads is)

pub record Pairs (was is : Aliases) : Type 0 where
  pub kept : Kept was is
  pub long : length is.odds.now ≡ length was.odds.now
  pub links_long : length is.links.now ≡ length was.odds.now
  pub left : Left (pair_up (length was.odds.now) was.sum (listed was.odds.now was.links.now (heads was))) is.odds.now is.links.now (heads is)

pub record Settled (was : Aliases) (h : ℕ) (is : Aliases) : Type 0 where
  pub kept : Kept was is
  pub long : length is.odds.now ≡ length was.odds.now
  pub links_are : is.links.now ≡ was.links.now
  pub odds_are : is.odds.now ≡ settle was.sum (chain (length was.odds.now) was.links.now h) was.odds.now
