-- A setup, and the answer that gives one, as numbers: the floats by their bits. And the setup that such numbers stand for, and their seven cells.
use Rattle.std.specs.Prelude.{ℕ, cond, not, List, [], ◌∷◌, eqb, get_or}
use Rattle.std.specs.Float.{binary64}
use Rattle.std.specs.Float.Ieee.{to_bits, of_bits}
use Rattle.refusal.specs.Outcome.{Outcome, gave, refused}
use Rattle.binomial.specs.declared.Method.{Method}
use Rattle.binomial.specs.declared.Method.TheVariants.{Constant, Binv}
use Rattle.binomial.specs.declared.SetupNumbers.{SetupNumbers}

abbrev pub method_numbers : Method → SetupNumbers
method_numbers (Constant c) = record { number = 0; kind = 0; n = c; r = 0; s = 0; a = 0; flip = 0 }
method_numbers (Binv b) =
    record { number = 0; kind = 1; n = b.n; r = to_bits binary64 b.r; s = to_bits binary64 b.s; a = to_bits binary64 b.a; flip = cond b.flip 1 0 }

abbrev pub in_numbers : Outcome Method → SetupNumbers
in_numbers (gave m) = method_numbers m
in_numbers (refused k) = record { number = k; kind = 0; n = 0; r = 0; s = 0; a = 0; flip = 0 }

-- the setup of any numbers: a constant where the kind is 0, flipped where the flip is not 0, and the number is not looked at
abbrev pub method_of : SetupNumbers → Method
method_of t =
    cond (eqb t.kind 0) (Constant t.n)
    (Binv (record { r = of_bits binary64 t.r; s = of_bits binary64 t.s; a = of_bits binary64 t.a; n = t.n; flip = not (eqb t.flip 0) }))

-- seven cells, and the numbers that stand in them
abbrev pub seven : SetupNumbers → List ℕ
seven t = t.number ∷ t.kind ∷ t.n ∷ t.r ∷ t.s ∷ t.a ∷ t.flip ∷ []

abbrev pub of_seven : List ℕ → SetupNumbers
of_seven cells =
    record { number = get_or cells 0 0; kind = get_or cells 1 0; n = get_or cells 2 0; r = get_or cells 3 0; s = get_or cells 4 0; a = get_or cells 5 0; flip = get_or cells 6 0 }
