-- The table of refusals, line by line, for the binomial setup and draw and for a ziggurat round: each number is given exactly when its row is the
-- first whose case holds, no other is ever given, and a refused draw or round consumes no words. Assumes nothing.
use Prim.Native.Nat.{ℕ, ◌+◌}
use native.Mathlib.Omega.{arith}
use mathlib.Core.Bool.{Bool, true, false, cond, not, ◌&&◌}
use mathlib.Core.Path.{◌≡◌, refl, ◌∙◌}
use mathlib.Core.Logic.{◌⊎◌}
use mathlib.Core.List.{List, [], ◌∷◌}
use borrow.Author.Tests.{eqb-true, eqb-false}
use lib.Dec.{ltb, eqb}
use lib.ListN.{length, get_or}
use lib.Ieee.{Float, nan, inf, fin, binary64, mul, eq, is_nan}
use Rattle.std.specs.Prelude.{Result}
use Rattle.refusal.specs.Outcome.{gave, in_order}
use Rattle.refusal.specs.Answers.{tells}
use Rattle.refusal.specs.declared.Refusal.{Refusal}
use Rattle.refusal.specs.declared.Drawing.{Drawing}
use Rattle.binomial.specs.declared.Method.{Method}
use Rattle.binomial.specs.declared.Method.TheVariants as method
use Rattle.binomial.specs.Tests.{too_many_trials}
use Rattle.binomial.specs.Setup.{nought, one, binv_of}
use Rattle.binomial.specs.New as new
use Rattle.binomial.specs.Draw as draw
use Rattle.words.proofs.First.{no_first}
use Rattle.ziggurat.specs.declared.Rounded.TheVariants.{Sample, Tail, Wedge}
use Rattle.ziggurat.specs.declared.Rounding.{Rounding}
use Rattle.ziggurat.specs.Round.{words_of, inside, layer, u_of, shape_of, shape}
use Rattle.ziggurat.specs.Round as round
use Rattle.promises.specs.Rows.{GivenBy, RefusedBy, Between, SetupRows, BinvRows, InWedge, RoundRows}
use Rattle.promises.proofs.Rows.{Says, says_itself, says_false, says_less, says_is, says_not, says_or, says_and, says_as, rows_given, rows_kept}

-- ---- the setup: the constants refuse nothing, so the five numbers stand in one order
says_nan : (p : Float) → Says (is_nan p) (p ≡ nan)
unfolding is_nan
says_nan nan = (λ e. refl, λ e. refl)
says_nan (inf s) = (λ e. cc, λ e. cc)
says_nan (fin s m e) = (λ q. cc, λ q. cc)

says_between : (p : Float) → Says (not (eq p nought) && not (eq p one)) (Between p)
says_between p = says_and _ _ (says_false (eq p nought)) (says_false (eq p one))

abbrev pub setup_tests : ℕ → Float → List (ℕ × Bool)
setup_tests n p =
    (5, new.too_small p)
    ∷ (6, new.too_large p)
    ∷ (15, too_many_trials n)
    ∷ (16, (not (eq p nought) && not (eq p one)) && new.needs_btpe n p)
    ∷ (17, (not (eq p nought) && not (eq p one)) && new.needs_poisson p)
    ∷ []

abbrev pub setup_value : ℕ → Float → Method
setup_value n p = cond (eq p nought) (method.Constant 0) (cond (eq p one) (method.Constant n) (method.Binv (binv_of n p)))

pub setup_order : (n : ℕ) (p : Float) → new.rule n p ≡ in_order (setup_tests n p) (gave (setup_value n p))
unfolding new.rule new.later_rule
setup_order n p = grind arith

pub setup_table : {n : ℕ} {p : Float} {r : Result Method Refusal} → new.Promise n p r → GivenBy (SetupRows n p) (tells r)
setup_table {n} {p} {r} q =
    rows_given _ _ (setup_tests n p) (SetupRows n p) (q.answer ∙ setup_order n p)
    (refl, says_or _ _ (says_itself _) (says_nan p), (refl, says_itself _, (refl, says_less 1048576 n, (refl, says_and _ _ (says_between p) (says_itself _), (refl, says_and _ _ (says_between p) (says_itself _), tt)))))

-- ---- the draw
pub binv_table : (m : Method) {pool : List ℕ} {r : Drawing} → draw.Promise m pool r → RefusedBy (BinvRows m pool) (tells r.outcome) 0 r.words
unfolding draw.rule
binv_table (method.Constant c) {pool} {r} q =
    rows_kept _ _ (draw.refusals (method.Constant c) pool) (BinvRows (method.Constant c) pool) (draw.used (method.Constant c) pool) 0 r.words q.answer q.words
    (refl, says_less 1048576 c, tt)
binv_table (method.Binv b) {pool} {r} q =
    rows_kept _ _ (draw.refusals (method.Binv b) pool) (BinvRows (method.Binv b) pool) (draw.used (method.Binv b) pool) 0 r.words q.answer q.words
    (refl, says_less 1048576 b.n, (refl, says_as (says_is (draw.attempts b pool) 0) (no_first (draw.ends b) pool).0 (no_first (draw.ends b) pool).1, tt))

-- ---- a round
module _ (symmetric : Bool) (X F : List Float) (pool : List ℕ) where
  abbrev w : ℕ
  w = get_or pool 0 0

  abbrev x : Float
  x = mul binary64 (u_of symmetric w) (get_or X (layer w) nan)

  abbrev Few : Type 0
  Few = (length pool ≡ 0) ⊎ ((length pool ≡ 1) × InWedge symmetric X (get_or pool 0 0))

  -- by whether x is inside, and whether the layer is layer 0
  few : (in_layer base : Bool) → inside symmetric x (get_or X (layer w + 1) nan) ≡ in_layer → eqb (layer w) 0 ≡ base → (height : Float)
      → Says (ltb (length pool) (words_of (cond in_layer (Sample x) (cond base (Tail (u_of symmetric w)) (Wedge x height))))) Few
  few true base e q height = says_as (says_less (length pool) 1) (λ h. grind arith) (λ h. grind (arith, e))
  few false true e q height = says_as (says_less (length pool) 1) (λ h. grind arith) (λ h. grind (arith, eqb-true _ _ q))
  few false false e q height = says_as (says_less (length pool) 2) (λ h. grind (arith, e, eqb-false _ _ q)) (λ h. grind arith)

  says_few : Says (round.too_few symmetric X F pool) Few
  unfolding shape_of
  says_few = few _ _ refl refl _

pub round_table : {symmetric : Bool} {X F : List Float} {pool : List ℕ} {r : Rounding} → round.Promise symmetric X F pool r → RefusedBy (RoundRows symmetric X F pool) (tells r.outcome) 0 r.words
unfolding round.rule
round_table {symmetric} {X} {F} {pool} {r} q =
    rows_kept _ _ (round.refusals symmetric X F pool) (RoundRows symmetric X F pool) (words_of (shape symmetric X F pool)) 0 r.words q.answer q.words
    (refl, says_or _ _ (says_not _ (says_is (length X) 257)) (says_not _ (says_is (length F) 257)), (refl, says_few symmetric X F pool, tt))
