-- One slot after the other lends to its link: the cells hold what they began with and what the slots so far lend them. Where a link that is
-- followed is no slot's, or a cell would exceed u64, the whole fails; else nothing does. Assumes nothing.
use Prim.Native.Nat.{ℕ, ◌+◌, ◌-◌, ◌<◌, ◌≤◌, ◌^◌}
use native.Mathlib.Omega.{arith}
use mathlib.Core.Bool.{Bool, true, false, not}
use mathlib.Core.Path.{◌≡◌, refl, sym}
use mathlib.Core.List.{List}
use borrow.Author.Tests.{lt-ltb, le-ltb, le-leb, lt-leb, eq-eqb, ne_eqb, eqb-true, eqb-false}
use lib.Dec.{eqb}
use Rattle.std.proofs.lemmas.Bool.{or_left, or_right}
use lib.ListN.{length, get_or, set, length-set}
use lib.Seq.{get_or-set_same, get_or-set_other}
use Rattle.counting.specs.Sum.{exceeds_u64}
use Rattle.counting.specs.Below.{sum_below, some_below}
use Rattle.counting.proofs.Below.{Next, earlier, latest, next, sum_step, sum_up_to, some_true, some_false, list_below_lem}
use Rattle.alias_checker.specs.Shares.{lends, lent_below, lent, far, fails, Lent}

module _ (odds links : List ℕ) (S : ℕ) where
  pub lent_step : (i j : ℕ) → lent_below odds links S (j + 1) i ≡ lent_below odds links S j i + lends odds links S i j
  unfolding lent_below
  lent_step i j = sum_step j (lends odds links S i)

  lent_up_to : (i j m : ℕ) → j ≤ m → lent_below odds links S j i ≤ lent_below odds links S m i
  unfolding lent_below
  lent_up_to i j m h = sum_up_to j m (lends odds links S i) h

  lent_none : (i : ℕ) → lent_below odds links S 0 i ≡ 0
  unfolding lent_below sum_below
  lent_none i = refl

  -- what slot j lends to i
  lends_nothing : (i j : ℕ) → S ≤ get_or odds j 0 → lends odds links S i j ≡ 0
  lends_nothing i j h = rw (le-ltb (get_or odds j 0) S h)

  lends_here : (i j : ℕ) → get_or odds j 0 < S → get_or links j 0 ≡ i → lends odds links S i j ≡ S - get_or odds j 0
  lends_here i j h e = rw (lt-ltb (get_or odds j 0) S h, eq-eqb (get_or links j 0) i e)

  lends_elsewhere : (i j : ℕ) → get_or odds j 0 < S → (get_or links j 0 ≡ i → ⊥) → lends odds links S i j ≡ 0
  lends_elsewhere i j h e = rw (lt-ltb (get_or odds j 0) S h, ne_eqb (get_or links j 0) i e)

  pub record Lending (found now : List ℕ) (j : ℕ) : Type 0 where
    pub inside : j ≤ length odds
    pub long : length now ≡ length odds
    pub near : (k : ℕ) → k < j → far odds links S k ≡ false
    pub cells : (i : ℕ) → i < length odds → get_or now i 0 ≡ get_or found i 0 + lent_below odds links S j i
    pub fits : (i : ℕ) → get_or now i 0 < 2 ^ 64

  pub lending_begins : (found : List ℕ) → length found ≡ length odds → ((i : ℕ) → get_or found i 0 < 2 ^ 64) → Lending found found 0
  lending_begins found h f = record { fits = f; inside = omega arith; long = h; near = λ k l. absurd (omega arith); cells = λ i l. omega (arith, lent_none i) }

  module _ (found now : List ℕ) (j : ℕ) (k : Lending found now j) (h : j < length odds) where
    nearer : far odds links S j ≡ false → (i : ℕ) → i < j + 1 → far odds links S i ≡ false
    nearer e i l = go (next i j (omega arith))
      where
        go : Next i j → far odds links S i ≡ false
        go (earlier q) = k.near i q
        go (latest q) = rw q e

    -- slot j has nothing to lend
    pub lending_skips : S ≤ get_or odds j 0 → Lending found now (j + 1)
    lending_skips o =
        record {
          inside = omega arith;
          long = k.long;
          near = nearer (rw (le-ltb (get_or odds j 0) S o));
          cells = λ i l. omega (arith, k.cells i l, lent_step i j, lends_nothing i j o);
          fits = k.fits;
        }

    module _ (o : get_or odds j 0 < S) where
      -- it lends to its link
      pub lending_adds : (v : ℕ) → v ≡ get_or now (get_or links j 0) 0 + (S - get_or odds j 0) → v < 2 ^ 64 → get_or links j 0 < length odds → Lending found (set now (get_or links j 0) v) (j + 1)
      lending_adds v is small near =
          record {
            inside = omega arith;
            long = simp length-set k.long;
            near = nearer (rw (lt-ltb (get_or odds j 0) S o, lt-leb (length odds) (get_or links j 0) near));
            cells = λ i l. at i l (eqb (get_or links j 0) i) refl;
            fits = λ i. fit i (eqb (get_or links j 0) i) refl;
          }
        where
          at : (i : ℕ) → i < length odds → (b : Bool) → eqb (get_or links j 0) i ≡ b → get_or (set now (get_or links j 0) v) i 0 ≡ get_or found i 0 + lent_below odds links S (j + 1) i
          at i l true e =
              let same = eqb-true (get_or links j 0) i e in
              let stored : get_or (set now (get_or links j 0) v) i 0 ≡ v = rw same (get_or-set_same now i v 0 (omega (arith, k.long))) in
              let held : v ≡ get_or now i 0 + (S - get_or odds j 0) = rw (← same) is in
              omega (arith, k.cells i l, lent_step i j, lends_here i j o same)
          at i l false e =
              let apart = eqb-false (get_or links j 0) i e in
              let kept = get_or-set_other now (get_or links j 0) i v 0 (λ q. apart (sym q)) in
              omega (arith, k.cells i l, lent_step i j, lends_elsewhere i j o apart)

          fit : (i : ℕ) → (b : Bool) → eqb (get_or links j 0) i ≡ b → get_or (set now (get_or links j 0) v) i 0 < 2 ^ 64
          fit i true e =
              let same = eqb-true (get_or links j 0) i e in
              let stored : get_or (set now (get_or links j 0) v) (get_or links j 0) 0 ≡ v = get_or-set_same now (get_or links j 0) v 0 (omega (arith, k.long)) in
              rw (← same) (omega arith)
          fit i false e =
              omega (arith, k.fits i, get_or-set_other now (get_or links j 0) i v 0 (λ q. eqb-false (get_or links j 0) i e (sym q)))

      -- its link is no slot's
      pub lending_strays : length odds ≤ get_or links j 0 → false ≡ not (fails odds links S (λ i. get_or found i 0))
      lending_strays away =
          let one : far odds links S j ≡ true = rw (lt-ltb (get_or odds j 0) S o, le-leb (length odds) (get_or links j 0) away) in
          rw (or_left (some_below (length odds) (far odds links S)) (some_below (length odds) (λ i. exceeds_u64 (get_or found i 0 + lent odds links S i))) (some_true (length odds) (far odds links S) j h one))

      -- the cell would exceed u64
      pub lending_exceeds : get_or links j 0 < length odds → 18446744073709551615 - (S - get_or odds j 0) < get_or now (get_or links j 0) 0 → S < 2 ^ 64 → false ≡ not (fails odds links S (λ i. get_or found i 0))
      lending_exceeds near over small =
          let i = get_or links j 0 in
          let more : 18446744073709551615 < get_or found (get_or links j 0) 0 + lent odds links S (get_or links j 0) =
          omega (arith, k.cells (get_or links j 0) near, lent_step (get_or links j 0) j, lends_here (get_or links j 0) j o refl, lent_up_to (get_or links j 0) (j + 1) (length odds) (omega arith)) in
          rw (or_right (some_below (length odds) (far odds links S)) _ (some_true (length odds) (λ c. exceeds_u64 (get_or found c 0 + lent odds links S c)) (get_or links j 0) near (lt-ltb _ _ more)))

  -- all slots have lent
  pub lending_ends : (found now : List ℕ) (j : ℕ) → Lending found now j → length odds ≤ j → Lent odds links S found true now
  lending_ends found now j k h =
      let all : j ≡ length odds = omega (arith, k.inside) in
      let cells : (i : ℕ) → i < length odds → get_or now i 0 ≡ get_or found i 0 + lent odds links S i = λ i l. rw (← all) (k.cells i l) in
      record {
        answer = rw (
          some_false (length odds) (far odds links S) (λ i l. k.near i (omega arith)),
          some_false (length odds) (λ i. exceeds_u64 (get_or found i 0 + lent odds links S i))
              (λ i l. le-ltb 18446744073709551615 (get_or found i 0 + lent odds links S i) (omega (arith, cells i l, k.fits i))),
        );
        cells = λ e. list_below_lem (length odds) (λ i. get_or found i 0 + lent odds links S i) now k.long cells;
      }
