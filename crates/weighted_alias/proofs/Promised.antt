-- What the builder and the draw promise, from what their parts answered: a part that refuses ends the call, and one that does not hands the order
-- on. Assumes nothing.
use Prim.Native.Nat.{ℕ, ◌+◌, ◌-◌, ◌<◌, ◌≤◌}
use native.Mathlib.Omega.{arith}
use mathlib.Core.Bool.{Bool, true, false, cond, ◌||◌}
use mathlib.Core.Path.{◌≡◌, refl, sym, ap, ◌∙◌}
use mathlib.Core.List.{List, [], ◌∷◌}
use borrow.Author.Tests.{ne_eqb, eqb-true, eqb-false, ltb-false, not-false}
use lib.Dec.{eqb}
use Rattle.std.proofs.lemmas.Bool.{or_parts}
use lib.ListN.{length, take, drop, length-drop}
use lib.Seq.{take_all}
use Rattle.counting.specs.Sum.{sum_of}
use Rattle.refusal.specs.Number.{number}
use Rattle.refusal.specs.Outcome.{Outcome, gave, refused, in_order, leaves}
use Rattle.refusal.specs.Answers.{tells, drawing}
use Rattle.refusal.specs.declared.Refusal.{Refusal}
use Rattle.refusal.specs.declared.Drawing.{Drawing}
use Rattle.refusal.proofs.Order.{early, late, given_means, given_not_refused}
use Rattle.refusal.proofs.Draws.{draws}
use Rattle.words.specs.Below as below
use Rattle.words.specs.Below.{place, target}
use Rattle.words.proofs.Place.{taken_means, target_below, place_in}
use Rattle.weighted_alias.specs.Pair.{pair_end, drawn_by, far_link}
use Rattle.weighted_alias.specs.Tests.{bad_length, no_total, slot_refusals, Slots}
use Rattle.weighted_alias.specs.WeightSum as weight_sum
use Rattle.weighted_alias.specs.New as new
use Rattle.weighted_alias.specs.Draw as draw
use Rattle.weighted_alias.proofs.Scales.{not_heavy}
use Rattle.std.specs.Prelude.{Result, Ok, Err}

-- ---- the number of slots, as `slots` answered it
module _ {n : ℕ} {unequal : Bool} {r : Result ℕ Refusal} (s : Slots n unequal r) (lengths : Bool) (e : unequal ≡ lengths) where
  pub slots_refuse : (k : Refusal) → r ≡ Err k → refused (number k) ≡ in_order (slot_refusals n lengths) (gave n)
  slots_refuse k q = rw (e, q) at s.answer

  pub slots_pass : (m : ℕ) → r ≡ Ok m → gave m ≡ in_order (slot_refusals n lengths) (gave n)
  slots_pass m q = rw (e, q) at s.answer

  pub sizes : (m : ℕ) → r ≡ Ok m → (0 < n) × (n ≤ 4096) × (lengths ≡ false)
  sizes m q =
      let none = (given_means (slot_refusals n lengths) n m (sym (slots_pass m q))).0 in
      (let some = eqb-false n 0 none.0 in omega arith, ltb-false 4096 n none.1.0, none.1.1.0)

pub good_length : (n lent : ℕ) → bad_length n lent ≡ false → lent ≡ n
good_length n lent e = eqb-true lent n (not-false (eqb lent n) e)

-- ---- the builder
module _ (ws odds links : List ℕ) where
  abbrev pub lengths : Bool
  lengths = bad_length (length ws) (length odds) || bad_length (length ws) (length links)

  new_refused : (r : Refusal) → refused (number r) ≡ new.rule ws (length odds) (length links) → new.Promise ws odds links (Err r) odds links
  new_refused r e =
      record { answer = e; odds_are = ap (λ (o : Outcome ℕ). leaves o (new.odds_of ws) odds) e; links_are = ap (λ (o : Outcome ℕ). leaves o (new.links_of ws) links) e }

  new_done : (S : ℕ) (odds' links' : List ℕ) → gave S ≡ new.rule ws (length odds) (length links) → odds' ≡ new.odds_of ws → links' ≡ new.links_of ws → new.Promise ws odds links (Ok S) odds' links'
  new_done S odds' links' e a b =
      record { answer = e; odds_are = a ∙ ap (λ (o : Outcome ℕ). leaves o (new.odds_of ws) odds) e; links_are = b ∙ ap (λ (o : Outcome ℕ). leaves o (new.links_of ws) links) e }

  module _ {unequal : Bool} {r : Result ℕ Refusal} (s : Slots (length ws) unequal r) (e : unequal ≡ lengths) where
    -- the number of slots is refused
    pub new_slots : (k : Refusal) → r ≡ Err k → new.Promise ws odds links (Err k) odds links
    unfolding new.rule
    new_slots k q =
        new_refused k (early (slot_refusals (length ws) lengths) (weight_sum.refusals ws) (length ws) (gave (sum_of ws)) (number k) (slots_refuse s lengths e k q))

    -- it is not, and so the call comes to what the sum does
    module _ (n : ℕ) (q : r ≡ Ok n) where
      as_sum : weight_sum.rule ws ≡ new.rule ws (length odds) (length links)
      unfolding new.rule weight_sum.rule
      as_sum = sym (late (slot_refusals (length ws) lengths) (weight_sum.refusals ws) (length ws) n (gave (sum_of ws)) (slots_pass s lengths e n q))

      module _ {w : Result ℕ Refusal} (p : weight_sum.Promise ws w) where
        pub new_weights : (k : Refusal) → w ≡ Err k → new.Promise ws odds links (Err k) odds links
        new_weights k u = new_refused k ((rw u at p.answer) ∙ as_sum)

        pub new_fills : (S : ℕ) → w ≡ Ok S → new.Fills ws (length odds) (length links) S
        unfolding weight_sum.rule
        new_fills S u =
            let size = sizes s lengths e n q in
            let equal = or_parts (bad_length (length ws) (length odds)) (bad_length (length ws) (length links)) size.2 in
            let sum = given_means (weight_sum.refusals ws) (sum_of ws) S (sym (rw u at p.answer)) in
            record { few = size.1; odds_long = good_length (length ws) (length odds) equal.0; links_long = good_length (length ws) (length links) equal.1; sum = sym sum.1; scales = not_heavy ws sum.0.0 }

        pub new_filled : (S : ℕ) → w ≡ Ok S → (odds' links' : List ℕ) → (odds' ≡ new.odds_of ws) × (links' ≡ new.links_of ws) → new.Promise ws odds links (Ok S) odds' links'
        new_filled S u odds' links' f = new_done S odds' links' ((rw u at p.answer) ∙ as_sum) f.0 f.1

-- ---- the draw
-- what is left of a pool behind its first words
pub part_is : (pool : List ℕ) (used : ℕ) → take (length pool - used) (drop used pool) ≡ drop used pool
part_is pool used = take_all (length pool - used) (drop used pool) (omega (arith, length-drop used pool))

-- a pool that gives no number below a total has no accepted word
none_means : {pool : List ℕ} {T : ℕ} (k : Refusal) → below.Promise pool T (Err k) → ◌≡◌ {A = Outcome (ℕ × ℕ)} (refused (number k)) (refused 12) × (place T pool ≡ 0)
unfolding below.rule
none_means {pool} {T} k p = go (eqb (place T pool) 0) refl p.answer
  where
    go : (b : Bool) → eqb (place T pool) 0 ≡ b → ◌≡◌ {A = Outcome (ℕ × ℕ)} (refused (number k)) (cond b (refused 12) (gave (target T pool, place T pool))) → ◌≡◌ {A = Outcome (ℕ × ℕ)} (refused (number k)) (refused 12) × (place T pool ≡ 0)
    go true e q = (q, eqb-true _ _ e)
    go false e q = absurd (given_not_refused (target T pool, place T pool) (number k) (sym q))

module _ (odds links : List ℕ) (S : ℕ) (pool : List ℕ) where
  abbrev comes_to : Outcome (ℕ × ℕ)
  comes_to = in_order (draw.refusals odds links S pool) (gave (draw.found odds links S pool))

  abbrev later : List (ℕ × Bool)
  later =
      (3, no_total S)
      ∷ (12, eqb (place (length odds) pool) 0 || eqb (place S (draw.after (length odds) pool)) 0)
      ∷ (13, far_link odds links (target (length odds) pool) (target S (draw.after (length odds) pool)))
      ∷ []

  module _ {unequal : Bool} {r : Result ℕ Refusal} (s : Slots (length odds) unequal r) (e : unequal ≡ bad_length (length odds) (length links)) where
    module _ (n : ℕ) (q : r ≡ Ok n) where
      as_later : in_order later (gave (draw.found odds links S pool)) ≡ comes_to
      as_later =
          sym (late (slot_refusals (length odds) (bad_length (length odds) (length links))) later (length odds) n (gave (draw.found odds links S pool)) (slots_pass s _ e n q))

      module _ (some : S ≡ 0 → ⊥) where
        pub draw_no_slot : (k : Refusal) → below.Promise pool (length odds) (Err k) → draw.Drawn odds links S pool (Err k)
        draw_no_slot k p =
            let none = none_means k p in
            record { answer = none.0 ∙ (rw (ne_eqb S 0 some, none.1)) ∙ as_later }

        module _ (c first : ℕ) (p : below.Promise pool (length odds) (Ok (c, first))) where
          pub draw_no_number : (k : Refusal) → below.Promise (drop first pool) S (Err k) → draw.Drawn odds links S pool (Err k)
          draw_no_number k w =
              let took = taken_means _ _ _ _ p in
              let none = none_means k w in
              record { answer = none.0 ∙ (rw (ne_eqb S 0 some, took.0, ne_eqb first 0 took.2, none.1)) ∙ as_later }

          -- the slot is in the table, and its words in the pool
          pub slot_in : (c < length odds) × (length links ≡ length odds) × (first ≤ length pool)
          slot_in =
              let took = taken_means _ _ _ _ p in
              let size = sizes s _ e n q in
              (omega (arith, took.0, took.1, took.2, target_below (length odds) pool (omega (arith, took.0, took.2))), good_length (length odds) (length links) size.2, omega (arith, took.0, place_in (length odds) pool))

          module _ (t second : ℕ) (w : below.Promise (drop first pool) S (Ok (t, second))) where
            -- so are those of the number
            pub number_in : first + second ≤ length pool
            number_in =
                let took = taken_means _ _ _ _ w in
                omega (arith, took.0, slot_in.2, place_in S (drop first pool), length-drop first pool)

            as_pair : in_order ((13, far_link odds links c t) ∷ []) (gave (drawn_by odds links c t, first + second)) ≡ comes_to
            as_pair =
                let one = taken_means _ _ _ _ p in
                let two = taken_means _ _ _ _ w in
                (rw (ne_eqb S 0 some, one.1, one.0, two.1, two.0, ne_eqb first 0 one.2, ne_eqb second 0 two.2)) ∙ as_later

            pub draw_strays : (k : Refusal) → tells {A = ℕ} (Err k) ≡ pair_end odds links c t → draw.Drawn odds links S pool (Err k)
            unfolding pair_end
            draw_strays k h = record { answer = early ((13, far_link odds links c t) ∷ []) [] (drawn_by odds links c t) (gave (drawn_by odds links c t, first + second)) (number k) h ∙ as_pair }

            pub draw_ends_at : (i : ℕ) → tells (Ok i) ≡ pair_end odds links c t → draw.Drawn odds links S pool (Ok (i, first + second))
            unfolding pair_end
            draw_ends_at i h =
                let is = given_means ((13, far_link odds links c t) ∷ []) (drawn_by odds links c t) i (sym h) in
                record { answer = (rw (is.0.0, is.1)) ∙ as_pair }

  -- the draw reports what the inner call answers
  pub draw_is : (o : Result (ℕ × ℕ) Refusal) → draw.Drawn odds links S pool o → (d : Drawing) → d ≡ drawing o → draw.Promise odds links S pool d
  unfolding draw.rule
  draw_is o h d e =
      let found = draw.found odds links S pool in
      let is = draws (draw.refusals odds links S pool) found.0 found.1 o h.answer d e in
      record { answer = is.0; words = is.1 }
