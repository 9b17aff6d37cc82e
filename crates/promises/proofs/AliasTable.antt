-- The table of refusals, line by line, for the calls on an alias table: each number is given exactly when its row is the first whose case holds,
-- no other is ever given, and a refused call leaves what the table says. Assumes nothing.
use Prim.Native.Nat.{ℕ, ◌+◌, ◌/◌, ◌<◌, ◌≤◌}
use mathlib.Core.Bool.{Bool, true, cond}
use mathlib.Core.Path.{◌≡◌, refl, sym, ◌∙◌}
use mathlib.Core.Logic.{◌⊎◌}
use mathlib.Core.List.{List}
use lib.Dec.{ltb, eqb}
use lib.ListN.{length, get_or, replicate}
use Rattle.std.specs.Prelude.{Result}
use Rattle.counting.specs.Sum.{sum_of, exceeds_u64}
use Rattle.refusal.specs.Outcome.{refused}
use Rattle.refusal.specs.Answers.{tells}
use Rattle.refusal.specs.declared.Refusal.{Refusal}
use Rattle.refusal.specs.declared.Drawing.{Drawing}
use Rattle.words.specs.Below.{place}
use Rattle.weighted_alias.specs.Tests.{too_heavy, bad_length, slot_refusals, Slots}
use Rattle.weighted_alias.specs.Pair.{far_link}
use Rattle.weighted_alias.specs.WeightSum as weight_sum
use Rattle.weighted_alias.specs.New as new
use Rattle.weighted_alias.specs.Draw as draw
use Rattle.alias_checker.specs.Shares.{lent, far}
use Rattle.alias_checker.specs.Check as check
use Rattle.alias_checker.specs.Weights as weights
use Rattle.promises.specs.Rows.{Differs, TooHeavy, Exceeds, GivenBy, RefusedBy, SlotRows, WeightSumRows, AliasNewRows, AliasDrawRows, AliasCheckRows, AliasWeightsRows}
use Rattle.promises.proofs.Rows.{Says, says_itself, says_less, says_most, says_is, says_not, says_or, says_and, says_some, rows_given, rows_kept}
use Rattle.promises.proofs.TreeTable.{says_exceeds, says_no_word}

-- ---- what each test says
says_differs : (n lent : ℕ) → Says (bad_length n lent) (Differs n lent)
says_differs n lent = says_not (eqb lent n) (says_is lent n)

says_heavy : (ws : List ℕ) → Says (too_heavy ws) (TooHeavy ws)
unfolding too_heavy
says_heavy ws = says_some (length ws) (λ i. ltb (18446744073709551615 / length ws) (get_or ws i 0)) (λ i. says_less _ (get_or ws i 0))

says_far : (odds links : List ℕ) (c t : ℕ) → Says (far_link odds links c t) ((get_or odds c 0 ≤ t) × (length odds ≤ get_or links c 0))
unfolding far_link
says_far odds links c t = says_and _ _ (says_most (get_or odds c 0) t) (says_most (length odds) (get_or links c 0))

-- ---- the calls
pub slots_table : {n : ℕ} {unequal : Bool} {r : Result ℕ Refusal} → Slots n unequal r → GivenBy (SlotRows n (unequal ≡ true)) (tells r)
slots_table {n} {unequal} {r} p =
    rows_given _ _ (slot_refusals n unequal) (SlotRows n (unequal ≡ true)) p.answer
    (refl, says_is n 0, (refl, says_less 4096 n, (refl, says_itself unequal, tt)))

pub weight_sum_table : {ws : List ℕ} {r : Result ℕ Refusal} → weight_sum.Promise ws r → GivenBy (WeightSumRows ws) (tells r)
unfolding weight_sum.rule
weight_sum_table {ws} {r} p =
    rows_given _ _ (weight_sum.refusals ws) (WeightSumRows ws) p.answer (refl, says_heavy ws, (refl, says_is (sum_of ws) 0, tt))

pub new_table : {ws odds links odds_after links_after : List ℕ} {r : Result ℕ Refusal} → new.Promise ws odds links r odds_after links_after
    → RefusedBy {B = List ℕ × List ℕ} (AliasNewRows ws (length odds) (length links)) (tells r) (odds, links) (odds_after, links_after)
unfolding new.rule
new_table {ws} {odds} {links} {odds_after} {links_after} {r} p =
    record {
      given = rows_given _ _ (new.refusals ws (length odds) (length links)) (AliasNewRows ws (length odds) (length links)) p.answer
          (refl, says_is _ 0, (refl, says_less 4096 _, (refl, says_or _ _ (says_differs _ _) (says_differs _ _), (refl, says_heavy ws, (refl, says_is (sum_of ws) 0, tt)))));
      kept = λ k e. (let odds_kept : odds_after ≡ odds = p.odds_are ∙ (rw (sym p.answer ∙ e)) in
          let links_kept : links_after ≡ links = p.links_are ∙ (rw (sym p.answer ∙ e)) in
          rw (odds_kept, links_kept));
    }

-- a refused draw consumes no words
pub draw_table : {odds links pool : List ℕ} {S : ℕ} {r : Drawing} → draw.Promise odds links S pool r → RefusedBy (AliasDrawRows odds links S pool) (tells r.outcome) 0 r.words
unfolding draw.rule
draw_table {odds} {links} {pool} {S} {r} p =
    rows_kept _ _ (draw.refusals odds links S pool) (AliasDrawRows odds links S pool) (place (length odds) pool + place S (draw.after (length odds) pool)) 0 r.words p.answer p.words
    (refl, says_is _ 0, (refl, says_less 4096 _, (refl, says_differs _ _, (refl, says_is S 0, (refl, says_or _ _ (says_no_word _ pool) (says_no_word S _), (refl, says_far odds links _ _, tt))))))

pub check_table : {ws odds links work after : List ℕ} {r : Result Bool Refusal} → check.Promise ws odds links work r after → RefusedBy (AliasCheckRows ws (length odds) (length links) (length work)) (tells r) work after
unfolding check.rule
check_table {ws} {odds} {links} {work} {after} {r} p =
    rows_kept _ _ (check.refusals ws (length odds) (length links) (length work)) (AliasCheckRows ws (length odds) (length links) (length work)) (check.changed ws odds links) work after p.answer p.work_is
    (refl, says_is _ 0, (refl, says_less 4096 _, (refl, says_or _ _ (says_or _ _ (says_differs _ _) (says_differs _ _)) (says_differs _ _), (refl, says_heavy ws, (refl, says_is (sum_of ws) 0, tt)))))

-- a table that is damaged leaves n zeros, and every other refusal what was there
pub weights_table : {odds links output after : List ℕ} {S : ℕ} {r : Result ℕ Refusal} → weights.Promise odds links S output r after → GivenBy (AliasWeightsRows odds links S (length output)) (tells r)
unfolding weights.rule weights.damaged
weights_table {odds} {links} {output} {after} {S} {r} p =
    rows_given _ _ (weights.refusals odds links S (length output)) (AliasWeightsRows odds links S (length output)) p.answer
    (refl, says_is _ 0, (refl, says_less 4096 _, (refl, says_or _ _ (says_differs _ _) (says_differs _ _), (refl, says_is S 0, (refl, damage, tt)))))
  where
    damage : Says (weights.damaged odds links S) (((j : ℕ) × (j < length odds) × ((get_or odds j 0 < S) × (length odds ≤ get_or links j 0))) ⊎ ((i : ℕ) × (i < length odds) × Exceeds (get_or odds i 0 + lent odds links S i)))
    damage =
        says_or _ _ (says_some (length odds) (far odds links S) (λ j. says_and _ _ (says_less (get_or odds j 0) S) (says_most (length odds) (get_or links j 0))))
        (says_some (length odds) (λ i. exceeds_u64 (get_or odds i 0 + lent odds links S i)) (λ i. says_exceeds (get_or odds i 0 + lent odds links S i)))

pub weights_leaves : {odds links output after : List ℕ} {S : ℕ} {r : Result ℕ Refusal} → weights.Promise odds links S output r after → (k : ℕ) → tells r ≡ refused k → after ≡ cond (eqb k 13) (replicate (length odds) 0) output
weights_leaves {odds} {links} {output} {after} {S} {r} p k e = p.output_is ∙ (rw (sym p.answer ∙ e))
