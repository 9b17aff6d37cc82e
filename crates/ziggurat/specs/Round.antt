-- One ziggurat round over the tables X and F: what it ends with, and the words it consumes.
use Rattle.std.specs.Prelude.{ℕ, ◌+◌, ◌%◌, Bool, false, cond, not, ◌||◌, ◌≡◌, List, [], ◌∷◌, ltb, eqb, length, get_or, Float, Result}
use Rattle.std.specs.Float.{nan, inf, fin, binary64}
use Rattle.std.specs.Float.Ieee.{add, sub, mul, lt}
use Rattle.refusal.specs.Answers.{tells}
use Rattle.refusal.specs.declared.Refusal.{Refusal}
use Rattle.refusal.specs.Outcome.{Outcome, gave, refused, in_order, consumed}
use Rattle.words.specs.Floats.{unit, symmetric_u, one_sided_u}
use Rattle.ziggurat.specs.declared.Rounded.{Rounded}
use Rattle.ziggurat.specs.declared.Rounded.TheVariants.{Sample, Tail, Wedge}
use Rattle.ziggurat.specs.declared.Rounding.{Rounding}

-- the words of each: 1, 1 or 2
abbrev pub words_of : Rounded → ℕ
words_of (Sample x) = 1
words_of (Tail u) = 1
words_of (Wedge x height) = 2

-- of a word, i is the low 8 bits
abbrev pub layer : ℕ → ℕ
layer w = w % 256

-- u of a word, symmetric or one-sided
abbrev pub u_of : Bool → ℕ → Float
u_of symmetric w = cond symmetric (symmetric_u w) (one_sided_u w)

abbrev pub magnitude : Float → Float
magnitude nan = nan
magnitude (inf s) = inf false
magnitude (fin s m e) = fin false m e

-- x (its magnitude, symmetric) is below the edge
abbrev pub inside : Bool → Float → Float → Bool
inside symmetric x edge = lt (cond symmetric (magnitude x) x) edge

-- the height F[i+1] + (F[i] - F[i+1]) * v
abbrev pub height_of : List Float → ℕ → Float → Float
height_of F i v = add binary64 (get_or F (i + 1) nan) (mul binary64 (sub binary64 (get_or F i nan) (get_or F (i + 1) nan)) v)

-- x = u * X[i]. If x (its magnitude, symmetric) is below X[i+1], the answer is x. Else for i = 0 it is the tail with u. Else the wedge: x with the
-- height that v gives.
unfoldable pub shape_of : Bool → List Float → List Float → Float → ℕ → Float → Rounded
shape_of symmetric X F u i v =
    let x = mul binary64 u (get_or X i nan) in
    cond (inside symmetric x (get_or X (i + 1) nan)) (Sample x) (cond (eqb i 0) (Tail u) (Wedge x (height_of F i v)))

-- u and i are of the pool's first word, and v is the next word's unit
abbrev pub shape : Bool → List Float → List Float → List ℕ → Rounded
shape symmetric X F pool =
    let w = get_or pool 0 0 in
    shape_of symmetric X F (u_of symmetric w) (layer w) (unit (get_or pool 1 0))

-- 14: a table's length isn't 257
abbrev pub bad_length : List Float → List Float → Bool
bad_length X F = not (eqb (length X) 257) || not (eqb (length F) 257)

-- 12: the pool ends before the round does
abbrev pub too_few : Bool → List Float → List Float → List ℕ → Bool
too_few symmetric X F pool = ltb (length pool) (words_of (shape symmetric X F pool))

-- ziggurat 14, 12
abbrev pub refusals : Bool → List Float → List Float → List ℕ → List (ℕ × Bool)
refusals symmetric X F pool =
    (14, bad_length X F)
    ∷ (12, too_few symmetric X F pool)
    ∷ []

unfoldable pub rule : Bool → List Float → List Float → List ℕ → Outcome Rounded
rule symmetric X F pool = in_order (refusals symmetric X F pool) (gave (shape symmetric X F pool))

pub record Promise (symmetric : Bool) (X F : List Float) (pool : List ℕ) (r : Rounding) : Type 0 where
  pub answer : tells r.outcome ≡ rule symmetric X F pool
  pub words : r.words ≡ consumed (rule symmetric X F pool) (words_of (shape symmetric X F pool))

-- ---- the parts of a round
-- the words that a round used, by how it ended
abbrev pub used_by : Outcome Rounded → ℕ
used_by (gave s) = words_of s
used_by (refused k) = 0

pub record Ended (o : Result Rounded Refusal) (r : Rounding) : Type 0 where
  pub same : r.outcome ≡ o
  pub words : r.words ≡ consumed (tells o) (used_by (tells o))

-- the wedge of layer i with x
abbrev pub wedge_rule : List Float → ℕ → Float → List ℕ → Outcome Rounded
wedge_rule F i x pool = in_order ((12, ltb (length pool) 2) ∷ []) (gave (Wedge x (height_of F i (unit (get_or pool 1 0)))))
