-- The checker says yes exactly when a table draws each index as often as its weight says; a built table gets yes, gives its weights back, and
-- shows nothing of what the lent tables held; and where the checker says yes no draw is damaged. Each from what the promises say when no test of a
-- refusal holds. Assumes nothing.
use Prim.Native.Nat.{ℕ, ◌+◌, ◌*◌, ◌/◌, ◌<◌, ◌≤◌}
use native.Mathlib.Omega.{arith}
use native.Mathlib.Nat.{mul_comm, mul-zero, mul-div_cancel, pos_of_ne-zero}
use mathlib.Core.Bool.{Bool, true, false}
use mathlib.Core.Path.{◌≡◌, refl, sym, ap, ◌∙◌}
use mathlib.Core.Logic.{◌↔◌}
use mathlib.Core.List.{List}
use lib.Dec.{leb}
use lib.ListN.{length, get_or}
use Rattle.std.specs.Prelude.{Result, Ok}
use Rattle.std.proofs.lemmas.Bool.{le-ltb, eq-eqb, ne_eqb, eqb-true, eqb-false, leb-true, not-false, or_parts, and_parts}
use Rattle.counting.specs.Sum.{sum_of, exceeds_u64}
use Rattle.counting.proofs.Below.{sum_same, sum_each, some_false, list_below_lem}
use Rattle.refusal.specs.Outcome.{gave, refused, None}
use Rattle.refusal.specs.Answers.{tells}
use Rattle.refusal.specs.declared.Refusal.{Refusal}
use Rattle.refusal.specs.declared.Drawing.{Drawing}
use Rattle.refusal.proofs.Named.{answer_determined}
use Rattle.refusal.proofs.Order.{given_means, given_same, refuses}
use Rattle.words.specs.Below.{target}
use Rattle.words.proofs.Place.{target_below}
use Rattle.weighted_alias.specs.Pair.{drawn_by, far_link}
use Rattle.weighted_alias.specs.New.{odds_of, links_of}
use Rattle.weighted_alias.specs.New as new
use Rattle.weighted_alias.specs.Draw as draw
use Rattle.weighted_alias.proofs.Scales.{not_heavy}
use Rattle.alias_checker.specs.Shares.{lent, far}
use Rattle.alias_checker.specs.Check.{pairs_drawing, fair}
use Rattle.alias_checker.specs.Check as check
use Rattle.alias_checker.specs.Weights as weights
use Rattle.alias_checker.proofs.Pairs.{fair_counts, counts_fair, fair_draws}
use Rattle.alias_checker.proofs.Judging.{fair_near}
use Rattle.promises.specs.Alias.{Takes, Built, DrawsEach}
use Rattle.promises.proofs.Balance.{odds_long, links_long, made_shares, made_fair}

-- ---- what a builder's and a checker's answer say
-- the builder's answer is the sum, and no test of a refusal holds
taken : (ws : List ℕ) (S : ℕ) → Takes ws S → None (new.refusals ws (length ws) (length ws)) × (sum_of ws ≡ S)
unfolding new.rule
taken ws S t = given_means (new.refusals ws (length ws) (length ws)) (sum_of ws) S t

-- so the checker of a table of n slots judges
checks : (ws odds links : List ℕ) (work S : ℕ) → Takes ws S → length odds ≡ length ws → length links ≡ length ws → work ≡ length ws → check.rule ws odds links work ≡ gave (fair ws odds links)
unfolding check.rule
checks ws odds links work S t o l w =
    let none = (taken ws S t).0 in
    rw (none.0, none.1.0, o, l, w, eq-eqb (length ws) (length ws) refl, none.1.1.1.0, none.1.1.1.1.0)

-- (a) for weights that the builder doesn't refuse and a table of their length, yes means that each index is drawn as often as its weight says
pub check_means : {ws odds links work after : List ℕ} {S : ℕ} {r : Result Bool Refusal} → Takes ws S → length odds ≡ length ws → length links ≡ length ws
    → length work ≡ length ws → check.Promise ws odds links work r after → (r ≡ Ok true) ↔ DrawsEach ws S odds links
check_means {ws} {odds} {links} {work} {after} {S} {r} t o l w p = (λ e. yes_draws e, λ d. draws_yes d)
  where
    judges : tells r ≡ gave (fair ws odds links)
    judges = p.answer ∙ checks ws odds links (length work) S t o l w

    yes_draws : r ≡ Ok true → DrawsEach ws S odds links
    yes_draws e = rw (← (taken ws S t).1) (fair_counts ws odds links (given_same _ _ (sym judges ∙ ap tells e)))

    draws_yes : DrawsEach ws S odds links → r ≡ Ok true
    draws_yes d = answer_determined r (Ok true) (judges ∙ ap gave (counts_fair ws odds links (rw (taken ws S t).1 d))) refl

-- ---- where the checker says yes
module _ {ws odds links work after : List ℕ} (p : check.Promise ws odds links work (Ok true) after) where
  judged : None (check.refusals ws (length odds) (length links) (length work)) × (fair ws odds links ≡ true)
  unfolding check.rule
  judged = given_means (check.refusals ws (length odds) (length links) (length work)) (fair ws odds links) true (sym p.answer)

  table_long : length odds ≡ length ws
  table_long = eqb-true _ _ (not-false _ (or_parts _ _ (or_parts _ _ judged.0.1.1.0).0).0)

  only_indexes : (c t : ℕ) → c < length odds → t < sum_of ws → drawn_by odds links c t < length odds
  only_indexes = fair_draws ws odds links table_long judged.1

  -- (d) a draw that is handed the weights' sum is never Damaged
  pub yes_never_damaged : {pool : List ℕ} {d : Drawing} → draw.Promise odds links (sum_of ws) pool d → tells d.outcome ≡ refused 13 → ⊥
  unfolding draw.rule far_link drawn_by
  yes_never_damaged {pool} {d} q e =
      let c = target (length odds) pool in
      let t = target (sum_of ws) (draw.after (length odds) pool) in
      let holds = (refuses (draw.refusals odds links (sum_of ws) pool) (drawn_by odds links (target (length odds) pool) (target (sum_of ws) (draw.after (length odds) pool))) 13 refl).0 (sym q.answer ∙ e) in
      let had = or_parts _ _ holds.1.1.1.1.0 in
      let stray = and_parts (leb (get_or odds c 0) t) (leb (length odds) (get_or links c 0)) holds.1.1.1.1.1 in
      let drawn = only_indexes c t (target_below (length odds) pool (pos_of_ne-zero (eqb-false _ _ had.0))) (target_below (sum_of ws) (draw.after (length odds) pool) (pos_of_ne-zero (eqb-false _ _ had.1))) in
      let linked : get_or links c 0 < length odds = rw (le-ltb t (get_or odds c 0) (leb-true _ _ stray.0)) at drawn in
      omega (arith, leb-true (length odds) (get_or links c 0) stray.1)

  -- an index of n or more is drawn by no pair
  pub yes_none_beyond : (j : ℕ) → length ws ≤ j → pairs_drawing odds links (sum_of ws) j ≡ 0
  unfolding pairs_drawing
  yes_none_beyond j h =
      sum_same (length odds) _ (λ c. 0)
      (λ c inside. sum_same (sum_of ws) _ (λ t. 0)
      (λ t below. rw (ne_eqb (drawn_by odds links c t) j (λ e. omega (arith, only_indexes c t inside below, table_long))))
      ∙ sum_each (sum_of ws) 0
      ∙ mul-zero (sum_of ws))
      ∙ sum_each (length odds) 0
      ∙ mul-zero (length odds)

-- ---- a built table
module _ {ws odds links : List ℕ} {S : ℕ} (b : Built ws odds links S) where
  given : None (new.refusals ws (length b.odds_found) (length b.links_found)) × (sum_of ws ≡ S)
  unfolding new.rule
  given = given_means (new.refusals ws (length b.odds_found) (length b.links_found)) (sum_of ws) S (sym b.promise.answer ∙ b.given)

  pub built_odds : odds ≡ odds_of ws
  built_odds = b.promise.odds_are ∙ (rw (sym b.promise.answer ∙ b.given))

  pub built_links : links ≡ links_of ws
  built_links = b.promise.links_are ∙ (rw (sym b.promise.answer ∙ b.given))

  odds_size : length odds ≡ length ws
  odds_size = ap length built_odds ∙ odds_long ws

  links_size : length links ≡ length ws
  links_size = ap length built_links ∙ links_long ws

  -- the weights are taken
  pub built_takes : Takes ws S
  unfolding new.rule
  built_takes =
      let none = given.0 in
      rw (none.0, none.1.0, eq-eqb (length ws) (length ws) refl, none.1.1.1.0, none.1.1.1.1.0, given.1)

  -- (b) it gets yes, whatever the work slice held
  pub built_yes : {work after : List ℕ} {r : Result Bool Refusal} → length work ≡ length ws → check.Promise ws odds links work r after → r ≡ Ok true
  built_yes {work} {after} {r} w p =
      let fairly : fair ws odds links ≡ true = rw (built_odds, built_links) (made_fair ws) in
      answer_determined r (Ok true) (p.answer ∙ checks ws odds links (length work) S built_takes odds_size links_size w ∙ ap gave fairly) refl

  shares : (i : ℕ) → i < length ws → weights.share odds links S i ≡ length ws * get_or ws i 0
  shares i h = rw (built_odds, built_links, ← given.1) (made_shares ws i h)

  not_damaged : weights.damaged odds links S ≡ false
  unfolding weights.damaged
  not_damaged =
      let fairly : fair ws odds links ≡ true = rw (built_odds, built_links) (made_fair ws) in
      rw (some_false (length odds) (far odds links S) (λ j h. rw (← given.1) (fair_near ws odds links odds_size fairly j h)), some_false (length odds) (λ i. exceeds_u64 (held i)) within)
    where
      held : ℕ → ℕ
      held i = get_or odds i 0 + lent odds links S i

      within : (i : ℕ) → i < length odds → exceeds_u64 (held i) ≡ false
      within i h =
          let inside : i < length ws = omega (arith, odds_size) in
          le-ltb 18446744073709551615 (held i) (omega (arith, shares i inside, not_heavy ws given.0.1.1.1.0 i inside))

  shown_weights : weights.shown odds links S ≡ ws
  unfolding weights.shown
  shown_weights =
      sym
      (list_below_lem (length odds) (λ i. weights.share odds links S i / length odds) ws (sym odds_size)
      (λ i h. let inside : i < length ws = omega (arith, odds_size) in
      let whole : length ws * get_or ws i 0 / length ws ≡ get_or ws i 0 = ap (λ (x : ℕ). x / length ws) (mul_comm (length ws) (get_or ws i 0)) ∙ mul-div_cancel (get_or ws i 0) (omega arith) in
      rw (shares i inside, odds_size) (sym whole)))

  -- (c) `weights` gives its weights back
  pub built_weights : {output after : List ℕ} {r : Result ℕ Refusal} → length output ≡ length ws → weights.Promise odds links S output r after → (r ≡ Ok (length ws)) × (after ≡ ws)
  unfolding weights.rule
  built_weights {output} {after} {r} w p =
      let none = given.0 in
      let is : weights.rule odds links S (length output) ≡ gave (length ws) = rw (odds_size, links_size, w, none.0, none.1.0, eq-eqb (length ws) (length ws) refl, ← given.1, none.1.1.1.1.0, given.1, not_damaged) in
      (answer_determined r (Ok (length ws)) (p.answer ∙ is) refl, p.output_is ∙ (rw is) ∙ shown_weights)

-- nothing of what the lent tables held shows
pub built_once : {ws odds links odds' links' : List ℕ} {S T : ℕ} → Built ws odds links S → Built ws odds' links' T → (odds ≡ odds') × (links ≡ links') × (S ≡ T)
built_once a b = (built_odds a ∙ sym (built_odds b), built_links a ∙ sym (built_links b), sym (given a).1 ∙ (given b).1)
