-- What the checker and `weights` promise, from what their parts answered: a part that refuses ends the call, and one that does not hands the order
-- on. Assumes nothing.
use Prim.Native.Nat.{ℕ}
use mathlib.Core.Bool.{Bool, true, false, ◌||◌}
use mathlib.Core.Path.{◌≡◌, refl, sym, ap, ◌∙◌}
use mathlib.Core.List.{List, [], ◌∷◌}
use borrow.Author.Tests.{eq-eqb, ne_eqb, eqb-true}
use lib.Dec.{eqb}
use Rattle.std.proofs.lemmas.Bool.{or_parts}
use lib.ListN.{length, replicate}
use Rattle.counting.specs.Sum.{sum_of}
use Rattle.refusal.specs.Number.{number}
use Rattle.refusal.specs.Outcome.{Outcome, gave, refused, in_order, leaves}
use Rattle.refusal.specs.Answers.{tells}
use Rattle.refusal.specs.declared.Refusal.{Refusal}
use Rattle.refusal.specs.declared.Refusal.TheVariants.{InsufficientNonZero}
use Rattle.refusal.proofs.Order.{early, late, given_means, given_not_refused, gives, never}
use Rattle.weighted_alias.specs.Tests.{bad_length, no_total, slot_refusals, Slots}
use Rattle.weighted_alias.specs.WeightSum as weight_sum
use Rattle.weighted_alias.proofs.Scales.{not_heavy}
use Rattle.weighted_alias.proofs.Promised.{slots_refuse, slots_pass, sizes, good_length}
use Rattle.alias_checker.specs.Check as check
use Rattle.alias_checker.specs.Weights as weights
use Rattle.std.specs.Prelude.{Result, Ok, Err}

-- ---- the checker
module _ (ws odds links work : List ℕ) where
  abbrev pub unequal : Bool
  unequal = (bad_length (length ws) (length odds) || bad_length (length ws) (length links)) || bad_length (length ws) (length work)

  abbrev comes_to : Outcome Bool
  comes_to = check.rule ws odds links (length work)

  check_refused : (k : Refusal) → refused (number k) ≡ comes_to → check.Promise ws odds links work (Err k) work
  check_refused k e = record { answer = e; work_is = ap (λ (o : Outcome Bool). leaves o (check.changed ws odds links) work) e }

  check_done : (b : Bool) (r : Result Bool Refusal) → tells r ≡ gave b → gave b ≡ comes_to → (after : List ℕ) → after ≡ check.changed ws odds links → check.Promise ws odds links work r after
  check_done b r t e after q = record { answer = t ∙ e; work_is = q ∙ ap (λ (o : Outcome Bool). leaves o (check.changed ws odds links) work) e }

  module _ {differ : Bool} {r : Result ℕ Refusal} (s : Slots (length ws) differ r) (e : differ ≡ unequal) where
    pub check_slots : (k : Refusal) → r ≡ Err k → check.Promise ws odds links work (Err k) work
    unfolding check.rule
    check_slots k q =
        check_refused k (early (slot_refusals (length ws) unequal) (weight_sum.refusals ws) (length ws) (gave (check.fair ws odds links)) (number k) (slots_refuse s unequal e k q))

    module _ (n : ℕ) (q : r ≡ Ok n) {w : Result ℕ Refusal} (p : weight_sum.Promise ws w) where
      as_sum : in_order (weight_sum.refusals ws) (gave (check.fair ws odds links)) ≡ comes_to
      unfolding check.rule
      as_sum = sym (late (slot_refusals (length ws) unequal) (weight_sum.refusals ws) (length ws) n (gave (check.fair ws odds links)) (slots_pass s unequal e n q))

      pub check_weights : (k : Refusal) → w ≡ Err k → check.Promise ws odds links work (Err k) work
      unfolding weight_sum.rule
      check_weights k u =
          check_refused k (early (weight_sum.refusals ws) [] (sum_of ws) (gave (check.fair ws odds links)) (number k) (rw u at p.answer) ∙ as_sum)

      module _ (S : ℕ) (u : w ≡ Ok S) where
        pub check_judges : check.Judges ws (length odds) (length work) S
        unfolding weight_sum.rule
        check_judges =
            let equal = or_parts (bad_length (length ws) (length odds) || bad_length (length ws) (length links)) (bad_length (length ws) (length work)) (sizes s unequal e n q).2 in
            let tables = or_parts (bad_length (length ws) (length odds)) (bad_length (length ws) (length links)) equal.0 in
            let sum = given_means (weight_sum.refusals ws) (sum_of ws) S (sym (rw u at p.answer)) in
            record {
              odds_long = good_length (length ws) (length odds) tables.0;
              work_long = good_length (length ws) (length work) equal.1;
              sum = sym sum.1;
              scales = not_heavy ws sum.0.0;
            }

        as_fair : gave (check.fair ws odds links) ≡ comes_to
        unfolding weight_sum.rule
        as_fair = sym ((gives (weight_sum.refusals ws) (check.fair ws odds links)).1 (given_means (weight_sum.refusals ws) (sum_of ws) S (sym (rw u at p.answer))).0) ∙ as_sum

        pub check_judged : (b : Bool) (after : List ℕ) → check.Judged ws odds links b after → check.Promise ws odds links work (Ok b) after
        check_judged b after j = check_done (check.fair ws odds links) (Ok b) (ap gave j.answer) as_fair after j.work_is

-- ---- weights
module _ (odds links : List ℕ) (S : ℕ) (output : List ℕ) where
  abbrev pub differs : Bool
  differs = bad_length (length odds) (length links) || bad_length (length odds) (length output)

  abbrev zeros : List ℕ
  zeros = replicate (length odds) 0

  abbrev outcome : Outcome ℕ
  outcome = weights.rule odds links S (length output)

  abbrev later : List (ℕ × Bool)
  later = (3, no_total S) ∷ (13, weights.damaged odds links S) ∷ []

  -- a refusal but 13 leaves the output
  weights_refused : (k : Refusal) → refused (number k) ≡ outcome → (eqb (number k) 13 ≡ false) → weights.Promise odds links S output (Err k) output
  weights_refused k e other =
      record { answer = e; output_is = rw (← e, other) }

  module _ {differ : Bool} {r : Result ℕ Refusal} (s : Slots (length odds) differ r) (e : differ ≡ differs) where
    not_damaged : (k : Refusal) → r ≡ Err k → eqb (number k) 13 ≡ false
    not_damaged k q = go (eqb (number k) 13) refl
      where
        go : (b : Bool) → eqb (number k) 13 ≡ b → eqb (number k) 13 ≡ false
        go true u = absurd (never (slot_refusals (length odds) differs) (length odds) 13 refl (sym (slots_refuse s differs e k q) ∙ ap refused (eqb-true (number k) 13 u)))
        go false u = u

    pub weights_slots : (k : Refusal) → r ≡ Err k → weights.Promise odds links S output (Err k) output
    unfolding weights.rule
    weights_slots k q =
        weights_refused k (early (slot_refusals (length odds) differs) later (length odds) (gave (length odds)) (number k) (slots_refuse s differs e k q)) (not_damaged k q)

    module _ (n : ℕ) (q : r ≡ Ok n) where
      as_later : in_order later (gave (length odds)) ≡ outcome
      unfolding weights.rule
      as_later = sym (late (slot_refusals (length odds) differs) later (length odds) n (gave (length odds)) (slots_pass s differs e n q))

      pub weights_total : S ≡ 0 → weights.Promise odds links S output (Err InsufficientNonZero) output
      weights_total z = weights_refused InsufficientNonZero ((rw (eq-eqb S 0 z)) ∙ as_later) refl

      module _ (some : S ≡ 0 → ⊥) (after : List ℕ) where
        as_damaged : in_order ((13, weights.damaged odds links S) ∷ []) (gave (length odds)) ≡ outcome
        as_damaged = (rw (ne_eqb S 0 some)) ∙ as_later

        pub weights_whole : weights.Restored odds links S (Ok tt) after → weights.Promise odds links S output (Ok (length odds)) after
        weights_whole w =
            let whole = (given_means ((13, weights.damaged odds links S) ∷ []) tt tt (sym w.answer)).0.0 in
            let given : gave (length odds) ≡ outcome = (rw whole) ∙ as_damaged in
            record { answer = given; output_is = rw (← given) (rw whole at w.output_is) }

        pub weights_broken : (k : Refusal) → weights.Restored odds links S (Err k) after → weights.Promise odds links S output (Err k) after
        weights_broken k w = go (weights.damaged odds links S) refl w.answer
          where
            go : (b : Bool) → weights.damaged odds links S ≡ b → refused (number k) ≡ in_order ((13, b) ∷ []) (gave (tt {0})) → weights.Promise odds links S output (Err k) after
            go true e q =
                let given : refused 13 ≡ outcome = (rw e) ∙ as_damaged in
                record { answer = early ((13, true) ∷ []) [] (tt {0}) (gave (length odds)) (number k) q ∙ given; output_is = rw (← given) (rw e at w.output_is) }
            go false e q = absurd (given_not_refused tt (number k) (sym q))
