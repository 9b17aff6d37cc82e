-- The rows of the table of refusals, in arithmetic and quantifiers and apart from the tests that the calls' definitions use; and for each call
-- its rows in their order.
use Rattle.std.specs.Prelude.{ℕ, suc, ◌+◌, ◌-◌, ◌*◌, ◌/◌, ◌%◌, ◌^◌, ◌<◌, ◌≤◌, Bool, true, false, cond, ◌≡◌, ◌⊎◌, ◌↔◌, List, [], ◌∷◌, length, get_or, drop, Float}
use Rattle.std.specs.Float.{nan, binary64}
use Rattle.std.specs.Float.Ieee.{sub, mul, lt, le, eq}
use Rattle.counting.specs.Sum.{sum_of}
use Rattle.refusal.specs.Outcome.{Outcome, refused}
use Rattle.words.specs.Below.{place, target}
use Rattle.weighted_tree.specs.Store.{Store, cell_at, weight_at}
use Rattle.weighted_tree.specs.Walk.{walk_path}
use Rattle.alias_checker.specs.Shares.{lent}
use Rattle.binomial.specs.declared.Method.{Method}
use Rattle.binomial.specs.declared.Method.TheVariants.{Constant, Binv}
use Rattle.binomial.specs.Setup.{nought, one, ten, whole, smaller}
use Rattle.binomial.specs.Attempt.{has_ended, attempt_by}
use Rattle.ziggurat.specs.Round.{u_of, magnitude}

-- a call's numbers with their cases, in order
abbrev pub Table : Type 1
Table = List (ℕ × Type 0)

-- number k is given: it is that of the first row whose case holds
abbrev pub FirstIs : ℕ → Table → Type 0
FirstIs k [] = ⊥
FirstIs k ((j, Case) ∷ later) = ((j ≡ k) × Case) ⊎ ((Case → ⊥) × FirstIs k later)

-- an outcome is refused by just these rows
abbrev pub GivenBy : {A : Type 0} → Table → Outcome A → Type 0
GivenBy rows o = (k : ℕ) → (o ≡ refused k) ↔ FirstIs k rows

-- and a refused call leaves what it found
pub record RefusedBy {A B : Type 0} (rows : Table) (o : Outcome A) (found after : B) : Type 0 where
  pub given : GivenBy rows o
  pub kept : (k : ℕ) → o ≡ refused k → after ≡ found

-- ---- words
-- for a T above 0, a word is accepted below 2^64 - (2^64 mod T)
abbrev pub Accepted : ℕ → ℕ → Type 0
Accepted T w = (0 < T) × (w < 2 ^ 64 - 2 ^ 64 % T)

-- no word of the pool is
abbrev pub NoWord : ℕ → List ℕ → Type 0
NoWord T pool = (i : ℕ) → i < length pool → Accepted T (get_or pool i 0) → ⊥

abbrev pub WordRows : ℕ → List ℕ → Table
WordRows T pool = (12, NoWord T pool) ∷ []

-- ---- the tree
-- a cell is below its children's sum
abbrev pub Unsound : Store → ℕ → ℕ → Type 0
Unsound s n i = cell_at s n i < cell_at s n (2 * i + 1) + cell_at s n (2 * i + 2)

-- some cell of a list is
unfoldable pub SomeUnsound : Store → ℕ → List ℕ → Type 0
SomeUnsound s n [] = ⊥
SomeUnsound s n (i ∷ path) = Unsound s n i ⊎ SomeUnsound s n path

-- cell i is reached from cell j by going up so many times: counted from one, a cell's parent is its half
abbrev pub Above : ℕ → ℕ → ℕ → Type 0
Above i j times = i + 1 ≡ (j + 1) / 2 ^ times

-- some parent of cell j is unsound, and some cell of its path, which is the cell and its parents
abbrev pub ParentUnsound : Store → ℕ → ℕ → Type 0
ParentUnsound s n j = (i : ℕ) × ((times : ℕ) × Above i j (suc times)) × Unsound s n i

abbrev pub PathUnsound : Store → ℕ → ℕ → Type 0
PathUnsound s n j = (i : ℕ) × ((times : ℕ) × Above i j times) × Unsound s n i

abbrev pub BadCount : Store → ℕ → Type 0
BadCount s n = (4096 < n) ⊎ (length s < n)

abbrev pub Full : Store → ℕ → Type 0
Full s n = (n ≡ 4096) ⊎ (n ≡ length s)

-- a tree to draw from is empty, or cell 0 holds 0
abbrev pub NoTotal : Store → ℕ → Type 0
NoTotal s n = (n ≡ 0) ⊎ (get_or s 0 0 ≡ 0)

-- a number exceeds u64
abbrev pub Exceeds : ℕ → Type 0
Exceeds x = 2 ^ 64 ≤ x

abbrev pub NewRows : Store → List ℕ → Table
NewRows s ws =
    (10, (4096 < length ws) ⊎ (length s < length ws))
    ∷ (4, Exceeds (sum_of ws))
    ∷ []

abbrev pub CountRows : Store → ℕ → Table
CountRows s n = (7, BadCount s n) ∷ []

abbrev pub GetRows : Store → ℕ → ℕ → Table
GetRows s n i =
    (7, BadCount s n)
    ∷ (8, n ≤ i)
    ∷ (13, Unsound s n i)
    ∷ []

abbrev pub PopRows : Store → ℕ → Table
PopRows s n =
    (7, BadCount s n)
    ∷ (11, n ≡ 0)
    ∷ (13, PathUnsound s n (n - 1))
    ∷ []

abbrev pub PushRows : Store → ℕ → ℕ → Table
PushRows s n w =
    (7, BadCount s n)
    ∷ (10, Full s n)
    ∷ (13, ParentUnsound s n n)
    ∷ (4, Exceeds (cell_at s n 0 + w))
    ∷ []

abbrev pub UpdateRows : Store → ℕ → ℕ → ℕ → Table
UpdateRows s n i w =
    (7, BadCount s n)
    ∷ (8, n ≤ i)
    ∷ (13, PathUnsound s n i)
    ∷ (4, Exceeds (cell_at s n 0 + (w - weight_at s n i)))
    ∷ []

abbrev pub WalkRows : Store → ℕ → ℕ → Table
WalkRows s n t =
    (7, BadCount s n)
    ∷ (3, NoTotal s n)
    ∷ (9, cell_at s n 0 ≤ t)
    ∷ (13, SomeUnsound s n (walk_path s n t))
    ∷ []

abbrev pub DrawRows : Store → ℕ → List ℕ → Table
DrawRows s n pool =
    (7, BadCount s n)
    ∷ (3, NoTotal s n)
    ∷ (12, NoWord (cell_at s n 0) pool)
    ∷ (13, SomeUnsound s n (walk_path s n (target (cell_at s n 0) pool)))
    ∷ []

-- ---- the alias table
abbrev pub Differs : ℕ → ℕ → Type 0
Differs n lent = lent ≡ n → ⊥

-- a weight exceeds 18446744073709551615 / n, rounded down
abbrev pub TooHeavy : List ℕ → Type 0
TooHeavy ws = (i : ℕ) × (i < length ws) × (18446744073709551615 / length ws < get_or ws i 0)

abbrev pub SlotRows : ℕ → Type 0 → Table
SlotRows n Unequal =
    (1, n ≡ 0)
    ∷ (10, 4096 < n)
    ∷ (14, Unequal)
    ∷ []

abbrev pub WeightSumRows : List ℕ → Table
WeightSumRows ws =
    (2, TooHeavy ws)
    ∷ (3, sum_of ws ≡ 0)
    ∷ []

abbrev pub AliasNewRows : List ℕ → ℕ → ℕ → Table
AliasNewRows ws odds links =
    let n = length ws in
    (1, n ≡ 0)
    ∷ (10, 4096 < n)
    ∷ (14, Differs n odds ⊎ Differs n links)
    ∷ (2, TooHeavy ws)
    ∷ (3, sum_of ws ≡ 0)
    ∷ []

-- the pool has no slot, or after it no number
abbrev pub AliasDrawRows : List ℕ → List ℕ → ℕ → List ℕ → Table
AliasDrawRows odds links S pool =
    let n = length odds in
    let after = drop (place n pool) pool in
    (1, n ≡ 0)
    ∷ (10, 4096 < n)
    ∷ (14, Differs n (length links))
    ∷ (3, S ≡ 0)
    ∷ (12, NoWord n pool ⊎ NoWord S after)
    ∷ (13, (get_or odds (target n pool) 0 ≤ target S after) × (n ≤ get_or links (target n pool) 0))
    ∷ []

abbrev pub AliasCheckRows : List ℕ → ℕ → ℕ → ℕ → Table
AliasCheckRows ws odds links work =
    let n = length ws in
    (1, n ≡ 0)
    ∷ (10, 4096 < n)
    ∷ (14, (Differs n odds ⊎ Differs n links) ⊎ Differs n work)
    ∷ (2, TooHeavy ws)
    ∷ (3, sum_of ws ≡ 0)
    ∷ []

-- a link that is followed is n or more, or a sum exceeds u64
abbrev pub AliasWeightsRows : List ℕ → List ℕ → ℕ → ℕ → Table
AliasWeightsRows odds links S output =
    let n = length odds in
    (1, n ≡ 0)
    ∷ (10, 4096 < n)
    ∷ (14, Differs n (length links) ⊎ Differs n output)
    ∷ (3, S ≡ 0)
    ∷ (13, ((j : ℕ) × (j < n) × ((get_or odds j 0 < S) × (n ≤ get_or links j 0))) ⊎ ((i : ℕ) × (i < n) × Exceeds (get_or odds i 0 + lent odds links S i)))
    ∷ []

-- ---- the binomial setup and draw
-- p is neither constant: the constants come before 16 and 17
abbrev pub Between : Float → Type 0
Between p = (eq p nought ≡ false) × (eq p one ≡ false)

abbrev pub SetupRows : ℕ → Float → Table
SetupRows n p =
    (5, (lt p nought ≡ true) ⊎ (p ≡ nan))
    ∷ (6, lt one p ≡ true)
    ∷ (15, 1048576 < n)
    ∷ (16, Between p × (le ten (mul binary64 (whole n) (smaller p)) ≡ true))
    ∷ (17, Between p × (eq (sub binary64 one (smaller p)) one ≡ true))
    ∷ []

-- a constant needs no word, and else no word's attempt ends
abbrev pub BinvRows : Method → List ℕ → Table
BinvRows (Constant c) pool = (15, 1048576 < c) ∷ []
BinvRows (Binv b) pool =
    (15, 1048576 < b.n)
    ∷ (12, (i : ℕ) → i < length pool → has_ended (attempt_by b (get_or pool i 0)) ≡ false)
    ∷ []

-- ---- a ziggurat round
-- the first word's x is not below the next edge of its layer, which is not layer 0
abbrev pub InWedge : Bool → List Float → ℕ → Type 0
InWedge symmetric X w =
    let i = w % 256 in
    let x = mul binary64 (u_of symmetric w) (get_or X i nan) in
    (lt (cond symmetric (magnitude x) x) (get_or X (i + 1) nan) ≡ false) × (i ≡ 0 → ⊥)

-- there is no word, or one where two are needed
abbrev pub RoundRows : Bool → List Float → List Float → List ℕ → Table
RoundRows symmetric X F pool =
    (14, Differs 257 (length X) ⊎ Differs 257 (length F))
    ∷ (12, (length pool ≡ 0) ⊎ ((length pool ≡ 1) × InWedge symmetric X (get_or pool 0 0)))
    ∷ []
