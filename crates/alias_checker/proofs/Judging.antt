-- The judgement of a table, and the weights that it shows, from what the parts answered. The cells of a table whose slots could all lend hold the
-- pairs that draw each index; one where some could not is not fair, since a fair one draws indexes alone and n times each weight is a u64.
-- Assumes nothing.
use Prim.Native.Nat.{ℕ, ◌+◌, ◌*◌, ◌/◌, ◌<◌, ◌^◌, min}
use native.Mathlib.Omega.{arith}
use mathlib.Core.Bool.{Bool, true, false, not}
use mathlib.Core.Path.{◌≡◌, refl, sym, ap, ◌∙◌}
use mathlib.Core.List.{List}
use borrow.Author.Tests.{le-ltb, eqb-true, ltb-true, leb-true, not-true, not-false}
use lib.Dec.{ltb, leb, eqb}
use Rattle.std.proofs.lemmas.Bool.{and_parts}
use lib.ListN.{length, get_or, replicate}
use Rattle.std.proofs.lemmas.List.{get_or-replicate, length-replicate}
use Rattle.counting.specs.Sum.{sum_of, exceeds_u64}
use Rattle.counting.specs.Below.{all_below, list_below}
use Rattle.counting.proofs.Below.{all_same, all_at, some_false, length_below, get_d_below, list_below_lem}
use Rattle.weighted_alias.specs.Pair.{drawn_by}
use Rattle.weighted_alias.specs.New.{Scales}
use Rattle.weighted_alias.proofs.Scales.{scaled_is}
use Rattle.alias_checker.specs.Shares.{lent, far, fails, Lent}
use Rattle.alias_checker.specs.Check.{pairs_drawing, fair, changed, Judged}
use Rattle.std.specs.Prelude.{Ok, Err}
use Rattle.refusal.specs.declared.Refusal.TheVariants.{Damaged}
use Rattle.alias_checker.specs.Weights.{share, damaged, shown, Restored}
use Rattle.alias_checker.proofs.Pairs.{pairs_closed, fair_counts, fair_draws}

-- ---- the odds capped by the largest u64 are the odds
pub capped_all : (odds : List ℕ) → ((i : ℕ) → get_or odds i 0 < 2 ^ 64) → list_below (length odds) (λ i. min (get_or odds i 0) 18446744073709551615) ≡ odds
capped_all odds fits = sym (list_below_lem (length odds) (λ i. min (get_or odds i 0) 18446744073709551615) odds refl (λ i l. omega (arith, fits i)))

-- and cells capped by 0 are zeros
pub capped_none : (odds after : List ℕ) → after ≡ list_below (length odds) (λ i. min (get_or odds i 0) 0) → after ≡ replicate (length odds) 0
capped_none odds after e =
    let zero_at : (i : ℕ) → i < length odds → get_or (replicate (length odds) 0) i 0 ≡ min (get_or odds i 0) 0 = λ i l. rw (get_or-replicate {A = ℕ} (length odds) i 0 0 l) (omega arith) in
    e ∙ sym (list_below_lem (length odds) (λ i. min (get_or odds i 0) 0) (replicate (length odds) 0) (length-replicate {A = ℕ} (length odds) 0) zero_at)

-- ---- the judgement
-- no slot of a fair table strays
pub fair_near : (ws odds links : List ℕ) → length odds ≡ length ws → fair ws odds links ≡ true → (j : ℕ) → j < length odds → far odds links (sum_of ws) j ≡ false
unfolding drawn_by
fair_near ws odds links long e j h = go (far odds links (sum_of ws) j) refl
  where
    go : (b : Bool) → far odds links (sum_of ws) j ≡ b → far odds links (sum_of ws) j ≡ false
    go true q =
        let is = and_parts (ltb (get_or odds j 0) (sum_of ws)) (leb (length odds) (get_or links j 0)) q in
        let at = fair_draws ws odds links long e j (get_or odds j 0) h (ltb-true (get_or odds j 0) (sum_of ws) is.0) in
        absurd (let follows : get_or links j 0 < length odds = rw (le-ltb (get_or odds j 0) (get_or odds j 0) (omega arith)) at at in omega (arith, leb-true (length odds) (get_or links j 0) is.1))
    go false q = q

module _ (ws odds links : List ℕ) (long : length odds ≡ length ws) (S : ℕ) (sum : S ≡ sum_of ws) (scales : Scales ws) (capped : List ℕ) (cap : capped ≡ list_below (length odds) (λ i. min (get_or odds i 0) S)) where
  begins : (i : ℕ) → i < length odds → get_or capped i 0 ≡ min (get_or odds i 0) S
  begins i h = ap (λ (l : List ℕ). get_or l i 0) cap ∙ get_d_below (length odds) (λ k. min (get_or odds k 0) S) i h

  counts : (i : ℕ) → i < length odds → get_or capped i 0 + lent odds links S i ≡ pairs_drawing odds links (sum_of ws) i
  counts i h = rw (← sum) (omega (arith, begins i h, pairs_closed odds links S i h))

  fair_lends : fair ws odds links ≡ true → fails odds links S (λ i. get_or capped i 0) ≡ false
  fair_lends e =
      rw (
        some_false (length odds) (far odds links S) (λ j h. rw sum (fair_near ws odds links long e j h)),
        some_false (length odds) (λ i. exceeds_u64 (get_or capped i 0 + lent odds links S i))
            (λ i h. le-ltb 18446744073709551615 (get_or capped i 0 + lent odds links S i) (omega (arith, counts i h, fair_counts ws odds links e i (omega arith), scales i (omega arith)))),
      )

  module _ (r : Bool) (lent_to : List ℕ) (l : Lent odds links S capped r lent_to) where
    cells : r ≡ true → (i : ℕ) → i < length odds → get_or lent_to i 0 ≡ pairs_drawing odds links (sum_of ws) i
    cells e i h = ap (λ (x : List ℕ). get_or x i 0) (l.cells e) ∙ get_d_below (length odds) (λ k. get_or capped k 0 + lent odds links S k) i h ∙ counts i h

    -- the cells are compared with the weights
    agreed : r ≡ true → fair ws odds links ≡ all_below (length ws) (λ i. eqb (get_or lent_to i 0) (length ws * get_or ws i 0))
    unfolding fair
    agreed e = all_same (length ws) _ _ (λ i h. ap (λ (x : ℕ). eqb x (length ws * get_or ws i 0)) (sym (cells e i (omega arith))))

    pub judged_yes : r ≡ true → true ≡ all_below (length ws) (λ i. eqb (get_or lent_to i 0) (length ws * get_or ws i 0)) → length lent_to ≡ length ws → Judged ws odds links true lent_to
    unfolding changed
    judged_yes e a size =
        let yes : fair ws odds links ≡ true = agreed e ∙ sym a in
        record {
          answer = sym yes;
          work_is = list_below_lem (length ws) (λ i. length ws * get_or ws i 0) lent_to size (λ i h. eqb-true _ _ (all_at (length ws) (λ k. eqb (get_or lent_to k 0) (length ws * get_or ws k 0)) (sym a) i h)) ∙ sym (scaled_is ws) ∙ (rw yes);
        }

    no_for : fair ws odds links ≡ false → (after : List ℕ) → after ≡ replicate (length odds) 0 → Judged ws odds links false after
    unfolding changed
    no_for unfair after e =
        record { answer = sym unfair; work_is = e ∙ (rw (unfair, long)) }

    pub judged_no : r ≡ false → (after : List ℕ) → after ≡ replicate (length odds) 0 → Judged ws odds links false after
    judged_no e = no_for (go (fair ws odds links) refl)
      where
        go : (b : Bool) → fair ws odds links ≡ b → fair ws odds links ≡ false
        go true q = absurd (let z = sym e ∙ l.answer ∙ ap not (fair_lends q) in let y : ◌≡◌ {A = ℕ} 0 1 = cc in omega arith)
        go false q = q

    pub judged_apart : r ≡ true → false ≡ all_below (length ws) (λ i. eqb (get_or lent_to i 0) (length ws * get_or ws i 0)) → (after : List ℕ) → after ≡ replicate (length odds) 0 → Judged ws odds links false after
    judged_apart e a = no_for (agreed e ∙ sym a)

-- ---- the weights that a table shows
module _ (odds links : List ℕ) (S : ℕ) (r : Bool) (lent_to : List ℕ) (l : Lent odds links S odds r lent_to) where
  answers : r ≡ not (damaged odds links S)
  unfolding damaged
  answers = l.answer

  pub restored_yes : r ≡ true → (after : List ℕ) → after ≡ list_below (length lent_to) (λ i. get_or lent_to i 0 / length lent_to) → length lent_to ≡ length odds → Restored odds links S (Ok tt) after
  unfolding shown
  restored_yes e after q size =
      let whole : damaged odds links S ≡ false = not-true _ (sym answers ∙ e) in
      let cell : (i : ℕ) → i < length odds → get_or lent_to i 0 ≡ share odds links S i = λ i h. ap (λ (x : List ℕ). get_or x i 0) (l.cells e) ∙ get_d_below (length odds) (λ k. get_or odds k 0 + lent odds links S k) i h in
      let size_after : length after ≡ length odds = ap length q ∙ length_below (length lent_to) (λ i. get_or lent_to i 0 / length lent_to) ∙ size in
      let part : (i : ℕ) → i < length odds → get_or after i 0 ≡ share odds links S i / length odds =
      λ i h. ap (λ (x : List ℕ). get_or x i 0) q ∙ get_d_below (length lent_to) (λ k. get_or lent_to k 0 / length lent_to) i (omega arith) ∙ (rw (cell i h, size)) in
      record { answer = rw whole; output_is = rw whole (list_below_lem (length odds) (λ i. share odds links S i / length odds) after size_after part) }

  pub restored_no : r ≡ false → (after : List ℕ) → after ≡ replicate (length odds) 0 → Restored odds links S (Err Damaged) after
  restored_no e after q =
      let broken : damaged odds links S ≡ true = not-false _ (sym answers ∙ e) in
      record { answer = rw broken; output_is = rw broken q }
