-- The exports write what their calls answer into cells. So any two answers that an export may write for the same input agree, and so does the lent
-- memory; and the number that it tells is that of a refusal exactly when the rows of its call say so. Two laws carry over what is proved of the
-- calls; the rest is a line for each export. Assumes nothing.
use Prim.Native.Nat.{ℕ, zero, suc, ◌/◌, ◌%◌, ◌<◌}
use native.Mathlib.Omega.{arith}
use mathlib.Core.Bool.{Bool, true, false, not, cond}
use mathlib.Core.Path.{◌≡◌, refl, sym, ap, ◌∙◌}
use mathlib.Core.Logic.{◌↔◌}
use mathlib.Core.List.{List, []}
use lib.Dec.{T, eqb}
use lib.ListN.{length, get_or, replicate}
use lib.Ieee.{Float, binary64, fits, mul, eq}
use lib.Ieee.Bits.{of_bits-to_bits}
use lib.Ieee.Fits.{mul-fits, div-fits}
use Rattle.std.specs.Prelude.{Result, Ok, Err}
use Rattle.refusal.specs.Number.{number}
use Rattle.refusal.specs.Outcome.{Outcome, gave, refused}
use Rattle.refusal.specs.Answers.{tells, in_numbers, alone}
use Rattle.refusal.specs.declared.Refusal.{Refusal}
use Rattle.refusal.specs.declared.Drawing.{Drawing}
use Rattle.refusal.proofs.Named.{named, named_number}
use Rattle.refusal.proofs.Order.{given_not_refused, given_means}
use Rattle.weighted_tree.specs.Store.{Store}
use Rattle.binomial.specs.declared.Binv.{Binv}
use Rattle.binomial.specs.declared.Method.{Method}
use Rattle.binomial.specs.declared.Method.TheVariants as method
use Rattle.binomial.specs.Setup.{nought, one, power_from, binv_of}
use Rattle.binomial.specs.New as setup
use Rattle.ziggurat.specs.declared.Rounded.{Rounded}
use Rattle.ziggurat.specs.declared.Rounded.TheVariants as rounded
use Rattle.ziggurat.specs.Numbers as rounds
use Rattle.slot_draw.specs.Cells.{Promise, three, cells_by, drawing_cells}
use Rattle.slot_draw.specs.Tree as tree
use Rattle.slot_draw.specs.Alias as alias
use Rattle.slot_draw.specs.Words as words
use Rattle.slot_draw.specs.Binomial as binomial
use Rattle.slot_draw.specs.Ziggurat as ziggurat
use Rattle.promises.specs.History.{told}
use Rattle.promises.specs.Rows.{Table, FirstIs, GivenBy, RefusedBy, WordRows, NewRows, CountRows, GetRows, PopRows, PushRows, UpdateRows, WalkRows, DrawRows, AliasNewRows, AliasDrawRows, AliasCheckRows, AliasWeightsRows, SetupRows, BinvRows, RoundRows}
use Rattle.promises.specs.Exports.{number_in, NumberBy, Refuses}
use Rattle.promises.proofs.TreeTable as tree_table
use Rattle.promises.proofs.AliasTable as alias_table
use Rattle.promises.proofs.FloatTable.{setup_tests, setup_value, setup_order}
use Rattle.promises.proofs.FloatTable as float_table
use Rattle.promises.proofs.Determined as call

-- ---- determinacy: two answers of a call that agree have the same cells
same_cells : {A : Type 0} {P : A → Type 0} {cells_of : A → List ℕ} {a b : List ℕ} → ((r t : A) → P r → P t → r ≡ t) → Promise P cells_of a → Promise P cells_of b → a ≡ b
same_cells {A} {P} {cells_of} agree p q = p.cells_are ∙ ap cells_of (agree _ _ p.promise q.promise) ∙ sym q.cells_are

same_lent : {A Lent : Type 0} {P Q : A → Type 0} {cells_of : A → List ℕ} {a b : List ℕ} → ((r t : A) → P r → Q t → (r ≡ t) × Lent) → Promise P cells_of a → Promise Q cells_of b → (a ≡ b) × Lent
same_lent {A} {Lent} {P} {Q} {cells_of} agree p q =
    let both = agree _ _ p.promise q.promise in
    (p.cells_are ∙ ap cells_of both.0 ∙ sym q.cells_are, both.1)

module _ {s : Store} where
  pub tree_new_determined : {ws a b : List ℕ} {x y : Store} → tree.New s ws a x → tree.New s ws b y → (a ≡ b) × (x ≡ y)
  tree_new_determined p q = same_lent (λ r t. call.new_determined) p q

  module _ {n : ℕ} where
    pub tree_is_valid_determined : {a b : List ℕ} → tree.IsValid s n a → tree.IsValid s n b → a ≡ b
    tree_is_valid_determined p q = same_cells (λ r t. call.is_valid_determined) p q

    pub tree_get_determined : {i : ℕ} {a b : List ℕ} → tree.Get s n i a → tree.Get s n i b → a ≡ b
    tree_get_determined p q = same_cells (λ r t. call.get_determined) p q

    pub tree_pop_determined : {a b : List ℕ} {x y : Store} → tree.Pop s n a x → tree.Pop s n b y → (a ≡ b) × (x ≡ y)
    tree_pop_determined p q = same_lent (λ r t. call.pop_determined) p q

    pub tree_push_determined : {w : ℕ} {a b : List ℕ} {x y : Store} → tree.Push s n w a x → tree.Push s n w b y → (a ≡ b) × (x ≡ y)
    tree_push_determined p q = same_lent (λ r t. call.push_determined) p q

    pub tree_update_determined : {i w : ℕ} {a b : List ℕ} {x y : Store} → tree.Update s n i w a x → tree.Update s n i w b y → (a ≡ b) × (x ≡ y)
    tree_update_determined p q = same_lent (λ r t. call.update_determined) p q

    pub tree_walk_determined : {t : ℕ} {a b : List ℕ} → tree.Walk s n t a → tree.Walk s n t b → a ≡ b
    tree_walk_determined p q = same_cells (λ r t. call.walk_determined) p q

    pub tree_draw_determined : {pool a b : List ℕ} → tree.Draw s n pool a → tree.Draw s n pool b → a ≡ b
    tree_draw_determined p q = same_cells (λ r t. call.draw_determined) p q

    pub tree_is_sound_determined : {a b : List ℕ} → tree.IsSound s n a → tree.IsSound s n b → a ≡ b
    tree_is_sound_determined p q = same_cells (λ r t. call.is_sound_determined) p q

pub alias_new_determined : {ws odds links a b x y z w : List ℕ} → alias.New ws odds links a x z → alias.New ws odds links b y w → (a ≡ b) × ((x ≡ y) × (z ≡ w))
alias_new_determined p q = same_lent (λ r t u v. let all = call.alias_new_determined u v in (all.0, (all.1, all.2))) p q

pub alias_draw_determined : {odds links pool a b : List ℕ} {S : ℕ} → alias.Draw odds links S pool a → alias.Draw odds links S pool b → a ≡ b
alias_draw_determined p q = same_cells (λ r t. call.alias_draw_determined) p q

pub alias_check_determined : {ws odds links work a b x y : List ℕ} → alias.Check ws odds links work a x → alias.Check ws odds links work b y → (a ≡ b) × (x ≡ y)
alias_check_determined p q = same_lent (λ r t. call.alias_check_determined) p q

pub alias_weights_determined : {odds links output a b x y : List ℕ} {S : ℕ} → alias.Weights odds links S output a x → alias.Weights odds links S output b y → (a ≡ b) × (x ≡ y)
alias_weights_determined p q = same_lent (λ r t. call.alias_weights_determined) p q

pub number_below_determined : {pool a b : List ℕ} {T : ℕ} → words.NumberBelow pool T a → words.NumberBelow pool T b → a ≡ b
number_below_determined p q = same_cells (λ r t. call.number_below_determined) p q

pub binomial_new_determined : {n : ℕ} {x : Float} {a b : List ℕ} → binomial.New n x a → binomial.New n x b → a ≡ b
binomial_new_determined p q = same_cells (λ r t. call.setup_determined) p q

pub binomial_draw_determined : (made : List ℕ) {pool a b : List ℕ} → binomial.Draw made pool a → binomial.Draw made pool b → a ≡ b
binomial_draw_determined made p q = same_cells (λ r t. call.binv_determined) p q

pub ziggurat_round_determined : {symmetric : Bool} {X F : List Float} {pool a b : List ℕ} → ziggurat.Round symmetric X F pool a → ziggurat.Round symmetric X F pool b → a ≡ b
ziggurat_round_determined p q = same_cells (λ r t. call.round_determined) p q

-- ---- the number in the first cell is that of what the call came to
number_of_three : {A : Type 0} (values : A → ℕ × ℕ) (o : Outcome A) → number_in (three (in_numbers values o)) ≡ told o
number_of_three values (gave v) = refl
number_of_three values (refused k) = refl

number_of_made : (a : Result Method Refusal) → number_in (binomial.made_cells a) ≡ told (tells a)
number_of_made (Ok (method.Constant c)) = refl
number_of_made (Ok (method.Binv b)) = refl
number_of_made (Err r) = refl

number_of_round : (o : Result Rounded Refusal) (k : ℕ) → (number_in (rounds.five (rounds.in_numbers (tells o) k)) ≡ told (tells o)) × (get_or (rounds.five (rounds.in_numbers (tells o) k)) 4 0 ≡ k)
number_of_round (Ok (rounded.Sample x)) k = (refl, refl)
number_of_round (Ok (rounded.Tail u)) k = (refl, refl)
number_of_round (Ok (rounded.Wedge x height)) k = (refl, refl)
number_of_round (Err r) k = (refl, refl)

-- ---- so the rows of a call are those of its export
number_by : {A : Type 0} (rows : Table) (cells : List ℕ) (o : Outcome A) → number_in cells ≡ told o → GivenBy rows o → NumberBy rows cells
number_by rows cells (gave v) e given k above = (λ z. absurd (omega arith), λ first. absurd (given_not_refused v k ((given k).1 first)))
number_by {A} rows cells (refused j) e given k above = (λ z. (given k).0 (ap refused (sym e ∙ z)), λ first. e ∙ same ((given k).1 first))
  where
    same : ◌≡◌ {A = Outcome A} (refused j) (refused k) → j ≡ k
    same z = cc

refused_told : {A : Type 0} (o : Outcome A) → 0 < told o → o ≡ refused (told o)
refused_told (gave v) above = absurd (omega arith)
refused_told (refused k) above = refl

refuses_by : {A B : Type 0} (rows : Table) (cells : List ℕ) (o : Outcome A) {found after : B} → number_in cells ≡ told o → RefusedBy rows o found after → Refuses rows cells found after
refuses_by rows cells o e by =
    record { number = number_by rows cells o e by.given; kept = λ above. by.kept _ (refused_told o (omega arith)) }

-- where no row's case holds, and there alone, the number is 0
pub number_0 : (rows : Table) (cells : List ℕ) → NumberBy rows cells → (number_in cells ≡ 0) ↔ ((k : ℕ) → 0 < k → FirstIs k rows → ⊥)
number_0 rows cells by =
    (λ z k above first. let e = (by k above).1 first in omega arith, λ none. go (number_in cells) refl none)
  where
    go : (n : ℕ) → number_in cells ≡ n → ((k : ℕ) → 0 < k → FirstIs k rows → ⊥) → number_in cells ≡ 0
    go zero e none = e
    go (suc n) e none = absurd (none (suc n) (omega arith) ((by (suc n) (omega arith)).0 e))

-- answers of three cells, by the values that stand for what is given
module _ {A : Type 0} {values : A → ℕ × ℕ} {P : Result A Refusal → Type 0} {cells : List ℕ} (rows : Table) (p : Promise P (cells_by values) cells) where
  number_is : number_in cells ≡ told (tells p.answer)
  number_is = ap number_in p.cells_are ∙ number_of_three values (tells p.answer)

  given_cells : ((a : Result A Refusal) → P a → GivenBy rows (tells a)) → NumberBy rows cells
  given_cells by = number_by rows cells (tells p.answer) number_is (by _ p.promise)

  refused_cells : {C : Type 0} {found after : C} → ((a : Result A Refusal) → P a → RefusedBy rows (tells a) found after) → Refuses rows cells found after
  refused_cells by = refuses_by rows cells (tells p.answer) number_is (by _ p.promise)

-- draws: the third cell is the words
drawn_cells_lem : {P : Drawing → Type 0} {cells : List ℕ} (rows : Table) → Promise P drawing_cells cells → ((a : Drawing) → P a → RefusedBy rows (tells a.outcome) 0 a.words) → Refuses rows cells 0 (get_or cells 2 0)
drawn_cells_lem {P} {cells} rows p by =
    let a = p.answer in
    rw p.cells_are (refuses_by rows (drawing_cells a) (tells a.outcome) (number_of_three alone (tells a.outcome)) (by a p.promise))

-- ---- the tree
module _ {s : Store} where
  pub tree_new_table : {ws cells : List ℕ} {after : Store} → tree.New s ws cells after → Refuses (NewRows s ws) cells s after
  tree_new_table p = refused_cells _ p (λ a. tree_table.new_table)

  module _ {n : ℕ} where
    pub tree_is_valid_table : {cells : List ℕ} → tree.IsValid s n cells → NumberBy (CountRows s n) cells
    tree_is_valid_table p = given_cells (CountRows s n) p (λ a. tree_table.is_valid_table)

    pub tree_get_table : {i : ℕ} {cells : List ℕ} → tree.Get s n i cells → NumberBy (GetRows s n i) cells
    tree_get_table {i} p = given_cells (GetRows s n i) p (λ a. tree_table.get_table)

    pub tree_pop_table : {cells : List ℕ} {after : Store} → tree.Pop s n cells after → Refuses (PopRows s n) cells s after
    tree_pop_table p = refused_cells _ p (λ a. tree_table.pop_table)

    pub tree_push_table : {w : ℕ} {cells : List ℕ} {after : Store} → tree.Push s n w cells after → Refuses (PushRows s n w) cells s after
    tree_push_table p = refused_cells _ p (λ a. tree_table.push_table)

    pub tree_update_table : {i w : ℕ} {cells : List ℕ} {after : Store} → tree.Update s n i w cells after → Refuses (UpdateRows s n i w) cells s after
    tree_update_table p = refused_cells _ p (λ a. tree_table.update_table)

    pub tree_walk_table : {t : ℕ} {cells : List ℕ} → tree.Walk s n t cells → NumberBy (WalkRows s n t) cells
    tree_walk_table {t} p = given_cells (WalkRows s n t) p (λ a. tree_table.walk_table)

    pub tree_draw_table : {pool cells : List ℕ} → tree.Draw s n pool cells → Refuses (DrawRows s n pool) cells 0 (get_or cells 2 0)
    tree_draw_table p = drawn_cells_lem _ p (λ a. tree_table.draw_table)

    pub tree_is_sound_table : {cells : List ℕ} → tree.IsSound s n cells → NumberBy (CountRows s n) cells
    tree_is_sound_table p = given_cells (CountRows s n) p (λ a. tree_table.is_sound_table)

-- ---- the alias table
pub alias_new_table : {ws odds links cells odds_after links_after : List ℕ} → alias.New ws odds links cells odds_after links_after
    → Refuses {B = List ℕ × List ℕ} (AliasNewRows ws (length odds) (length links)) cells (odds, links) (odds_after, links_after)
alias_new_table p = refused_cells _ p (λ a. alias_table.new_table)

pub alias_draw_table : {odds links pool cells : List ℕ} {S : ℕ} → alias.Draw odds links S pool cells → Refuses (AliasDrawRows odds links S pool) cells 0 (get_or cells 2 0)
alias_draw_table p = drawn_cells_lem _ p (λ a. alias_table.draw_table)

pub alias_check_table : {ws odds links work cells after : List ℕ} → alias.Check ws odds links work cells after → Refuses (AliasCheckRows ws (length odds) (length links) (length work)) cells work after
alias_check_table p = refused_cells _ p (λ a. alias_table.check_table)

pub alias_weights_table : {odds links output cells after : List ℕ} {S : ℕ} → alias.Weights odds links S output cells after → NumberBy (AliasWeightsRows odds links S (length output)) cells
alias_weights_table {odds} {links} {output} {cells} {after} {S} p =
    given_cells (AliasWeightsRows odds links S (length output)) p (λ a. alias_table.weights_table)

-- a table that is damaged leaves n zeros, and every other refusal what was there
pub alias_weights_leaves : {odds links output cells after : List ℕ} {S : ℕ} → alias.Weights odds links S output cells after → 0 < number_in cells → after ≡ cond (eqb (number_in cells) 13) (replicate (length odds) 0) output
alias_weights_leaves {odds} {links} {output} {cells} {after} {S} p above =
    let e = number_is [] p in
    rw e (alias_table.weights_leaves p.promise _ (refused_told (tells p.answer) (omega arith)))

-- ---- words, the binomial, a ziggurat round
pub number_below_table : {pool cells : List ℕ} {T : ℕ} → words.NumberBelow pool T cells → NumberBy (WordRows T pool) cells
number_below_table {pool} {cells} {T} p = given_cells (WordRows T pool) p (λ a. tree_table.number_below_table)

pub binomial_new_table : {n : ℕ} {x : Float} {cells : List ℕ} → binomial.New n x cells → NumberBy (SetupRows n x) cells
binomial_new_table {n} {x} {cells} p =
    number_by (SetupRows n x) cells (tells p.answer) (ap number_in p.cells_are ∙ number_of_made p.answer) (float_table.setup_table p.promise)

pub binomial_draw_table : (made : List ℕ) {pool cells : List ℕ} → binomial.Draw made pool cells → Refuses (BinvRows (binomial.method_of made) pool) cells 0 (get_or cells 2 0)
binomial_draw_table made p = drawn_cells_lem _ p (λ a. float_table.binv_table (binomial.method_of made))

pub ziggurat_round_table : {symmetric : Bool} {X F : List Float} {pool cells : List ℕ} → ziggurat.Round symmetric X F pool cells → Refuses (RoundRows symmetric X F pool) cells 0 (get_or cells 4 0)
ziggurat_round_table {symmetric} {X} {F} {pool} {cells} p =
    let a = p.answer in
    let cell = number_of_round a.outcome a.words in
    rw (p.cells_are, cell.1) (refuses_by _ _ (tells a.outcome) cell.0 (float_table.round_table p.promise))

-- ---- a setup in cells is the setup that was made
flip_back : (b : Bool) → not (eqb (cond b 1 0) 0) ≡ b
flip_back true = refl
flip_back false = refl

binv_back : (b : Binv) → T (fits binary64 b.r) → T (fits binary64 b.s) → T (fits binary64 b.a) → binomial.method_of (binomial.made_cells (Ok (method.Binv b))) ≡ method.Binv b
binv_back b r s a = rw (of_bits-to_bits binary64 b.r r, of_bits-to_bits binary64 b.s s, of_bits-to_bits binary64 b.a a, flip_back b.flip)

power_fits : (bits n : ℕ) (power made : Float) → T (fits binary64 made) → T (fits binary64 (power_from bits n power made))
unfolding power_from
power_fits zero n power made h = h
power_fits (suc bits) n power made h = power_fits bits (n / 2) (mul binary64 power power) _ (go (eqb (n % 2) 1))
  where
    go : (b : Bool) → T (fits binary64 (cond b (mul binary64 made power) made))
    go true = mul-fits binary64 made power
    go false = h

setup_back : (n : ℕ) (x : Float) → binomial.method_of (binomial.made_cells (Ok (setup_value n x))) ≡ setup_value n x
unfolding binv_of fits
setup_back n x = go (eq x nought) (eq x one)
  where
    go : (z t : Bool) → binomial.method_of (binomial.made_cells (Ok (cond z (method.Constant 0) (cond t (method.Constant n) (method.Binv (binv_of n x)))))) ≡ cond z (method.Constant 0) (cond t (method.Constant n) (method.Binv (binv_of n x)))
    go true t = refl
    go false true = refl
    go false false = binv_back (binv_of n x) (power_fits 64 n _ one tt) (div-fits binary64 _ _) (mul-fits binary64 _ _)

setup_same : {n : ℕ} {x : Float} {m : Method} → setup.Promise n x (Ok m) → binomial.method_of (binomial.made_cells (Ok m)) ≡ m
setup_same {n} {x} {m} p =
    let e = (given_means (setup_tests n x) (setup_value n x) m (sym (p.answer ∙ setup_order n x))).1 in
    ap (λ (k : Method). binomial.method_of (binomial.made_cells (Ok k))) (sym e) ∙ setup_back n x ∙ e

no_number_0 : (r : Refusal) → number r ≡ 0 → ⊥
no_number_0 r e = let first : number r ≡ 1 = ap number (sym (named_number r) ∙ ap named e) in omega arith

-- where a setup is not refused, the draw reads from its cells the very setup that the rule gives
pub setup_handed_on : {n : ℕ} {x : Float} {cells : List ℕ} → binomial.New n x cells → number_in cells ≡ 0 → setup.rule n x ≡ gave (binomial.method_of cells)
setup_handed_on {n} {x} {cells} p z = go p.answer p.promise p.cells_are
  where
    go : (a : Result Method Refusal) → setup.Promise n x a → cells ≡ binomial.made_cells a → setup.rule n x ≡ gave (binomial.method_of cells)
    go (Ok m) q e = sym q.answer ∙ ap gave (sym (ap binomial.method_of e ∙ setup_same q))
    go (Err r) q e = absurd (no_number_0 r (sym (ap number_in e) ∙ z))
