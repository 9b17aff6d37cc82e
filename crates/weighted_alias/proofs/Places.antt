-- Each slot stands in one place: done, or on one of the lists. A slot that is put on the list that its odds say keeps that, where it stood
-- nowhere before; so the lists are sorted after the split and after every turn of the pairing. Assumes nothing.
use Prim.Native.Nat.{ℕ, zero, suc, ◌+◌, ◌<◌, ◌≤◌}
use native.Mathlib.Omega.{arith}
use mathlib.Core.Bool.{Bool, true, false, cond}
use mathlib.Core.Path.{◌≡◌, refl, sym, ap, ◌∙◌}
use mathlib.Core.List.{List, [], ◌∷◌}
use borrow.Author.Tests.{eq-eqb, eqb-false, ltb-true, ltb-false}
use lib.Dec.{ltb, eqb}
use lib.ListN.{length, get_or, set}
use lib.Seq.{get_or-set_other}
use Rattle.counting.specs.Sum.{sum_of}
use Rattle.counting.specs.Below.{sum_below}
use Rattle.counting.proofs.Below.{sum_each, sum_only}
use Rattle.weighted_alias.specs.New.{Making, on_small, on_big, push, split}
use Rattle.weighted_alias.specs.Lists.{over, once, is_low, not_low, Sorted, unlisted}

-- ---- tests as numbers
pub one_zero : (b : Bool) → ◌≡◌ {A = ℕ} (cond b 1 0) 0 → b ≡ false
one_zero true e = absurd (omega arith)
one_zero false e = refl

pub zero_one : (b : Bool) → ◌≡◌ {A = ℕ} (cond b 0 1) 0 → b ≡ true
zero_one true e = refl
zero_one false e = absurd (omega arith)

-- ---- a slot that is on no list
pub once_self : (x : ℕ) → once x x ≡ 1
once_self x = rw (eq-eqb x x refl)

-- functions that differ at x alone have the same sum over a list without x
pub over_same : (x : ℕ) (f g : ℕ → ℕ) (xs : List ℕ) → over (once x) xs ≡ 0 → ((c : ℕ) → (c ≡ x → ⊥) → f c ≡ g c) → over f xs ≡ over g xs
unfolding sum_of
over_same x f g [] e h = refl
over_same x f g (y ∷ ys) e h =
    let apart : once x y ≡ 0 = omega arith in
    omega (arith, h y (λ e. eqb-false x y (one_zero (eqb x y) apart) (sym e)), over_same x f g ys (omega arith) h)

pub over_ones : (xs : List ℕ) → over (λ c. 1) xs ≡ length xs
unfolding sum_of
over_ones [] = refl
over_ones (x ∷ xs) = omega (arith, over_ones xs)

-- how often x stands below n
once_below : (n x : ℕ) → sum_below n (once x) ≡ cond (ltb x n) 1 0
once_below n x = sum_only n x (λ c. 1)

pub sorted_count : (n S : ℕ) (t : Making) (done : List ℕ) → Sorted n S t done → length done + (length t.small + length t.big) ≡ n
sorted_count n S t done k =
    omega (arith, k.cover (λ c. 1), over_ones done, over_ones t.small, over_ones t.big, sum_each n 1)

-- ---- a slot x that is to be put on a list: all others stand in their places
pub record Open (n S : ℕ) (t : Making) (done : List ℕ) (x : ℕ) : Type 0 where
  pub cover : (f : ℕ → ℕ) → sum_below n f ≡ f x + (over f done + (over f t.small + over f t.big))
  pub low : over (not_low S t.odds) t.small ≡ 0
  pub high : over (is_low S t.odds) t.big ≡ 0

-- it is below n, and on no list
pub record Alone (n x : ℕ) (t : Making) (done : List ℕ) : Type 0 where
  pub below : x < n
  pub off_done : over (once x) done ≡ 0
  pub off_small : over (once x) t.small ≡ 0
  pub off_big : over (once x) t.big ≡ 0

pub alone : (n S : ℕ) (t : Making) (done : List ℕ) (x : ℕ) → Open n S t done x → Alone n x t done
alone n S t done x k = go (ltb x n) refl
  where
    go : (b : Bool) → ltb x n ≡ b → Alone n x t done
    go true e =
        let all : sum_below n (once x) ≡ 1 = once_below n x ∙ rw e in
        let self = once_self x in
        let cover = k.cover (once x) in
        record { below = ltb-true x n e; off_done = omega arith; off_small = omega arith; off_big = omega arith }
    go false e =
        let all : sum_below n (once x) ≡ 0 = once_below n x ∙ rw e in
        absurd (omega (arith, once_self x, k.cover (once x)))

pub push_sorted : (n S : ℕ) (t : Making) (done : List ℕ) (x : ℕ) → Open n S t done x → Sorted n S (push S x t) done
unfolding sum_of
push_sorted n S t done x k = go (ltb (get_or t.odds x 0) S) refl
  where
    go : (b : Bool) → ltb (get_or t.odds x 0) S ≡ b → Sorted n S (cond b (on_small x t) (on_big x t)) done
    go true e =
        let own : not_low S t.odds x ≡ 0 = rw e in
        record { cover = λ f. omega (arith, k.cover f); low = omega (arith, k.low); high = k.high }
    go false e =
        let own : is_low S t.odds x ≡ 0 = rw e in
        record { cover = λ f. omega (arith, k.cover f); low = k.low; high = omega (arith, k.high) }

-- ---- after the split
pub push_odds : (S x : ℕ) (t : Making) → (push S x t).odds ≡ t.odds
push_odds S x t = go (ltb (get_or t.odds x 0) S)
  where
    go : (b : Bool) → (cond b (on_small x t) (on_big x t)).odds ≡ t.odds
    go true = refl
    go false = refl

pub split_open : (S i : ℕ) (t : Making) → Sorted i S t [] → Open (suc i) S t [] i
unfolding sum_below
split_open S i t k = record { cover = λ f. omega (arith, k.cover f); low = k.low; high = k.high }

pub split_odds : (S i : ℕ) (odds links : List ℕ) → (split S i (unlisted odds links)).odds ≡ odds
unfolding split
split_odds S zero odds links = refl
split_odds S (suc i) odds links = push_odds S i (split S i (unlisted odds links)) ∙ split_odds S i odds links

pub split_sorted : (S i : ℕ) (odds links : List ℕ) → Sorted i S (split S i (unlisted odds links)) []
unfolding split sum_of sum_below
split_sorted S zero odds links = record { cover = λ f. refl; low = refl; high = refl }
split_sorted S (suc i) odds links =
    push_sorted (suc i) S (split S i (unlisted odds links)) [] i (split_open S i (split S i (unlisted odds links)) (split_sorted S i odds links))

-- ---- in a turn of the pairing
pub record HeadsAre (n S : ℕ) (odds : List ℕ) (s b : ℕ) : Type 0 where
  pub small_in : s < n
  pub big_in : b < n
  pub apart : s ≡ b → ⊥
  pub less : get_or odds s 0 < S
  pub more : S ≤ get_or odds b 0

module _ (n S : ℕ) (odds links done : List ℕ) (s : ℕ) (ss : List ℕ) (b : ℕ) (bs : List ℕ) (k : Sorted n S (record { odds = odds; links = links; small = s ∷ ss; big = b ∷ bs }) done) where
  less : get_or odds s 0 < S
  unfolding sum_of
  less =
      let own : not_low S odds s ≡ 0 = omega (arith, k.low) in
      ltb-true _ _ (zero_one (ltb (get_or odds s 0) S) own)

  more : S ≤ get_or odds b 0
  unfolding sum_of
  more =
      let own : is_low S odds b ≡ 0 = omega (arith, k.high) in
      ltb-false _ _ (one_zero (ltb (get_or odds b 0) S) own)

  abbrev rest : Making
  rest = record { odds = odds; links = links; small = ss; big = bs }

  -- of either head, the others stand in their places
  open_small : Open n S rest (b ∷ done) s
  unfolding sum_of
  open_small = record { cover = λ f. omega (arith, k.cover f); low = omega (arith, k.low); high = omega (arith, k.high) }

  open_big : Open n S rest (s ∷ done) b
  unfolding sum_of
  open_big = record { cover = λ f. omega (arith, k.cover f); low = omega (arith, k.low); high = omega (arith, k.high) }

  pub small_alone : Alone n s rest (b ∷ done)
  small_alone = alone n S rest (b ∷ done) s open_small

  pub big_alone : Alone n b rest (s ∷ done)
  big_alone = alone n S rest (s ∷ done) b open_big

  pub heads : HeadsAre n S odds s b
  heads = record { small_in = small_alone.below; big_in = big_alone.below; apart = λ e. (let same = ap (λ x. get_or odds x 0) e in omega (arith, less, more)); less = less; more = more }

  -- b is to be put on a list, with any odds, and s is done
  pub turn_open : (v : ℕ) (links' : List ℕ) → Open n S (record { odds = set odds b v; links = links'; small = ss; big = bs }) (s ∷ done) b
  turn_open v links' =
      record {
        cover = open_big.cover;
        low = sym (over_same b (not_low S odds) (not_low S (set odds b v)) ss big_alone.off_small (λ c h. rw (get_or-set_other odds b c v 0 h))) ∙ open_big.low;
        high = sym (over_same b (is_low S odds) (is_low S (set odds b v)) bs big_alone.off_big (λ c h. rw (get_or-set_other odds b c v 0 h))) ∙ open_big.high;
      }
