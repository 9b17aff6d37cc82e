-- Every table that the builder writes draws each index as often as its weight says. All along the pairing an index has its due: its odds, and
-- what the slots that are done lend it; and the slots on the lists hold S each on average. So the pairing, which ends because a list is empty,
-- leaves no small slot, and big ones with odds of just S, which lend nothing. Assumes nothing.
use Prim.Native.Nat.{ℕ, zero, suc, ◌+◌, ◌-◌, ◌*◌, ◌<◌, ◌≤◌}
use native.Mathlib.Omega.{arith}
use native.Mathlib.Nat.{suc-mul, zero-mul}
use mathlib.Core.Bool.{Bool, true, false, cond}
use mathlib.Core.Path.{◌≡◌, refl, sym, ap, ◌∙◌}
use mathlib.Core.Logic.{◌⊎◌, inl, inr, ⊎_elim}
use mathlib.Core.List.{List, [], ◌∷◌}
use borrow.Author.Tests.{lt-ltb, le-ltb, ltb-false}
use lib.Dec.{ltb, eqb}
use lib.ListN.{length, get_or, set, length-set, replicate, length-replicate}
use lib.Seq.{get_or-set_same, get_or-set_other, set-get_or}
use Rattle.std.proofs.lemmas.List.{nil_from_length}
use Rattle.std.proofs.lemmas.Grind.{common_steps}
use Rattle.counting.specs.Sum.{sum_of}
use Rattle.counting.specs.Below.{sum_below}
use Rattle.counting.proofs.Below.{sum_same, sum_term, sum_times, sum_list}
use Rattle.weighted_alias.specs.New.{Making, making, head_of, on_small, on_big, push, split, pair_up, settle, scaled, begun, paired, odds_of, links_of}
use Rattle.weighted_alias.specs.Lists.{over, once, is_low, not_low, Sorted}
use Rattle.weighted_alias.proofs.Places.{one_zero, over_same, sorted_count, Open, alone, push_sorted, split_odds, split_sorted, HeadsAre, heads, small_alone, big_alone, turn_open}
use Rattle.weighted_alias.proofs.Splits.{push_count, split_long}
use Rattle.weighted_alias.proofs.Turns.{still}
use Rattle.weighted_alias.proofs.Scales.{scaled_long, scaled_at}
use Rattle.alias_checker.specs.Shares.{lends, lent_below, lent}
use Rattle.alias_checker.specs.Check.{fair}
use Rattle.alias_checker.proofs.Pairs.{pairs_closed, counts_fair}

-- whether a slot has odds above S
abbrev is_high : ℕ → List ℕ → ℕ → ℕ
is_high S odds c = cond (ltb S (get_or odds c 0)) 1 0

abbrev held : List ℕ → ℕ → ℕ
held odds c = get_or odds c 0

-- ---- each index has its due
record Due (n S : ℕ) (ws : List ℕ) (t : Making) (done : List ℕ) : Type 0 where
  odds_long : length t.odds ≡ n
  links_long : length t.links ≡ n
  draws : (i : ℕ) → i < n → get_or t.odds i 0 + over (lends t.odds t.links S i) done ≡ n * get_or ws i 0
  total : over (held t.odds) t.small + over (held t.odds) t.big ≡ (length t.small + length t.big) * S
  most : over (is_high S t.odds) done ≡ 0

-- the same while a slot x is on no list
record Owed (n S : ℕ) (ws : List ℕ) (t : Making) (done : List ℕ) (x : ℕ) : Type 0 where
  odds_long : length t.odds ≡ n
  links_long : length t.links ≡ n
  draws : (i : ℕ) → i < n → get_or t.odds i 0 + over (lends t.odds t.links S i) done ≡ n * get_or ws i 0
  total : get_or t.odds x 0 + (over (held t.odds) t.small + over (held t.odds) t.big) ≡ suc (length t.small + length t.big) * S
  most : over (is_high S t.odds) done ≡ 0

-- a slot on no list is put on one: its link is no done slot's
push_due : (n S : ℕ) (ws : List ℕ) (t : Making) (done : List ℕ) (x : ℕ) → Open n S t done x → Owed n S ws t done x → Due n S ws (push S x t) done
unfolding sum_of
push_due n S ws t done x free u = go (ltb (get_or t.odds x 0) S)
  where
    keep : (h i : ℕ) → over (lends t.odds (set t.links x h) S i) done ≡ over (lends t.odds t.links S i) done
    keep h i = over_same x _ _ done (alone n S t done x free).off_done (λ c q. rw (get_or-set_other t.links x c h 0 q))

    go : (b : Bool) → Due n S ws (cond b (on_small x t) (on_big x t)) done
    go true =
        record {
          odds_long = u.odds_long;
          links_long = simp length-set u.links_long;
          draws = λ i l. omega (arith, keep (head_of t.small) i, u.draws i l);
          total = omega (arith, u.total);
          most = u.most;
        }
    go false =
        record {
          odds_long = u.odds_long;
          links_long = simp length-set u.links_long;
          draws = λ i l. omega (arith, keep (head_of t.big) i, u.draws i l);
          total =
              let one : length t.small + suc (length t.big) ≡ suc (length t.small + length t.big) = omega arith in
              omega (arith, u.total, ap (λ (m : ℕ). m * S) one);
          most = u.most;
        }

-- ---- a turn of the pairing: s is done and lends b what it lacks, and b is to be put on a list
module _ (n S : ℕ) (ws odds links done : List ℕ) (s : ℕ) (ss : List ℕ) (b : ℕ) (bs : List ℕ) (k : Sorted n S (making odds links (s ∷ ss) (b ∷ bs)) done) (u : Due n S ws (making odds links (s ∷ ss) (b ∷ bs)) done) where
  abbrev rest : ℕ
  rest = get_or odds b 0 - S + get_or odds s 0

  abbrev turned : Making
  turned = making (set odds b (get_or odds b 0 - S + get_or odds s 0)) (set links s b) ss bs

  facing : HeadsAre n S odds s b
  facing = heads n S odds links done s ss b bs k

  at_big : get_or turned.odds b 0 ≡ rest
  at_big = get_or-set_same odds b rest 0 (omega (arith, facing.big_in, u.odds_long))

  off_big : (c : ℕ) → (c ≡ b → ⊥) → get_or odds c 0 ≡ get_or turned.odds c 0
  off_big c h = sym (get_or-set_other odds b c rest 0 h)

  at_small : get_or turned.odds s 0 ≡ get_or odds s 0
  at_small = get_or-set_other odds b s rest 0 facing.apart

  small_off : over (once s) done ≡ 0
  unfolding sum_of
  small_off = omega (arith, (small_alone n S odds links done s ss b bs k).off_done)

  big_off : over (once b) done ≡ 0
  unfolding sum_of
  big_off = omega (arith, (big_alone n S odds links done s ss b bs k).off_done)

  done_lend : (i : ℕ) → over (lends odds links S i) done ≡ over (lends turned.odds turned.links S i) done
  done_lend i =
      over_same s (lends odds links S i) (lends odds turned.links S i) done small_off (λ c h. rw (get_or-set_other links s c b 0 h))
      ∙ over_same b (lends odds turned.links S i) (lends turned.odds turned.links S i) done big_off (λ c h. rw (get_or-set_other odds b c rest 0 h))

  small_lends : (i : ℕ) → lends turned.odds turned.links S i s ≡ cond (eqb b i) (S - get_or odds s 0) 0
  small_lends i =
      rw (at_small, get_or-set_same links s b 0 (omega (arith, facing.small_in, u.links_long)), lt-ltb (get_or odds s 0) S facing.less)

  turn_draws : (i : ℕ) → i < n → get_or turned.odds i 0 + over (lends turned.odds turned.links S i) (s ∷ done) ≡ n * get_or ws i 0
  unfolding sum_of
  turn_draws i h = grind (arith, common_steps, u.draws i h, done_lend i, small_lends i, at_big, off_big i, facing.less, facing.more)

  turn_total : get_or turned.odds b 0 + (over (held turned.odds) ss + over (held turned.odds) bs) ≡ suc (length ss + length bs) * S
  unfolding sum_of
  turn_total =
      let smalls = over_same b (held odds) (held turned.odds) ss (big_alone n S odds links done s ss b bs k).off_small off_big in
      let bigs = over_same b (held odds) (held turned.odds) bs (big_alone n S odds links done s ss b bs k).off_big off_big in
      let two : length (s ∷ ss) + length (b ∷ bs) ≡ suc (suc (length ss + length bs)) = omega arith in
      omega (arith, u.total, ap (λ (m : ℕ). m * S) two, suc-mul (suc (length ss + length bs)) S, at_big, facing.less, facing.more)

  turn_most : over (is_high S turned.odds) (s ∷ done) ≡ 0
  unfolding sum_of
  turn_most =
      let own : is_high S turned.odds s ≡ 0 = rw (at_small, le-ltb S (get_or odds s 0) (omega (arith, facing.less))) in
      let others = over_same b (is_high S odds) (is_high S turned.odds) done big_off (λ c h. rw (get_or-set_other odds b c rest 0 h)) in
      omega (arith, u.most)

  turn_sorted : Sorted n S (push S b turned) (s ∷ done)
  turn_sorted = push_sorted n S turned (s ∷ done) b (turn_open n S odds links done s ss b bs k rest (set links s b))

  turn_due : Due n S ws (push S b turned) (s ∷ done)
  turn_due =
      push_due n S ws turned (s ∷ done) b (turn_open n S odds links done s ss b bs k rest (set links s b))
      (record { odds_long = simp length-set u.odds_long; links_long = simp length-set u.links_long; draws = turn_draws; total = turn_total; most = turn_most })

-- ---- the pairing ends because a list is empty, and not because its bound was met
record Over (n S : ℕ) (ws : List ℕ) (t : Making) : Type 0 where
  done : List ℕ
  sorted : Sorted n S t done
  due : Due n S ws t done
  ended : (length t.small ≡ 0) ⊎ (length t.big ≡ 0)

pair_over : (k n S : ℕ) (ws odds links done ss bs : List ℕ) → length ss + length bs ≤ k → Sorted n S (making odds links ss bs) done → Due n S ws (making odds links ss bs) done → Over n S ws (pair_up k S (making odds links ss bs))
unfolding pair_up
pair_over zero n S ws odds links done ss bs h k u = record { done = done; sorted = k; due = u; ended = inl (omega arith) }
pair_over (suc f) n S ws odds links done [] bs h k u = rw (still (suc f) S (making odds links [] bs) refl) (record { done = done; sorted = k; due = u; ended = inl refl })
pair_over (suc f) n S ws odds links done (s ∷ ss) [] h k u = rw (still (suc f) S (making odds links (s ∷ ss) []) refl) (record { done = done; sorted = k; due = u; ended = inr refl })
pair_over (suc f) n S ws odds links done (s ∷ ss) (b ∷ bs) h k u =
    pair_over f n S ws _ _ (s ∷ done) _ _
    (omega (arith, push_count S b (turned n S ws odds links done s ss b bs k u)))
    (turn_sorted n S ws odds links done s ss b bs k u)
    (turn_due n S ws odds links done s ss b bs k u)

-- ---- lists of slots that are all below S, or all just S
record Full (S : ℕ) (odds xs : List ℕ) : Type 0 where
  low : over (is_low S odds) xs ≡ 0
  high : over (is_high S odds) xs ≡ 0

low_less : (S : ℕ) (odds xs : List ℕ) → over (not_low S odds) xs ≡ 0 → over (held odds) xs + length xs ≤ length xs * S
unfolding sum_of
low_less S odds [] e = omega (arith, zero-mul S)
low_less S odds (x ∷ xs) e = grind (arith, low_less S odds xs, suc-mul (length xs) S)

high_more : (S : ℕ) (odds xs : List ℕ) → over (is_low S odds) xs ≡ 0 → length xs * S + over (is_high S odds) xs ≤ over (held odds) xs
unfolding sum_of
high_more S odds [] e = omega (arith, zero-mul S)
high_more S odds (x ∷ xs) e = grind (arith, high_more S odds xs, suc-mul (length xs) S)

module _ (S : ℕ) (odds : List ℕ) where
  full_at : (x : ℕ) (xs : List ℕ) → Full S odds (x ∷ xs) → (get_or odds x 0 ≡ S) × Full S odds xs
  unfolding sum_of
  full_at x xs f = (grind (arith, f.low, f.high), record { low = omega (arith, f.low); high = omega (arith, f.high) })

  settle_full : (xs : List ℕ) → Full S odds xs → settle S xs odds ≡ odds
  unfolding settle
  settle_full [] f = refl
  settle_full (x ∷ xs) f =
      let same : set odds x S ≡ odds = ap (λ (y : ℕ). set odds x y) (sym (full_at x xs f).0) ∙ set-get_or odds x 0 in
      rw same (settle_full xs (full_at x xs f).1)

  full_lend : (links : List ℕ) (i : ℕ) (xs : List ℕ) → Full S odds xs → over (lends odds links S i) xs ≡ 0
  unfolding sum_of
  full_lend links i [] f = refl
  full_lend links i (x ∷ xs) f =
      let own : lends odds links S i x ≡ 0 = rw (le-ltb (get_or odds x 0) S (omega (arith, (full_at x xs f).0))) in
      omega (arith, full_lend links i xs (full_at x xs f).1)

none_over : (f : ℕ → ℕ) (xs : List ℕ) → length xs ≡ 0 → over f xs ≡ 0
unfolding sum_of
none_over f xs e = rw (nil_from_length xs e)

-- ---- a table whose pairing is over
module _ (n S : ℕ) (ws : List ℕ) (t : Making) (o : Over n S ws t) where
  no_small : length t.small ≡ 0
  no_small =
      ⊎_elim (λ (e : length t.small ≡ 0). e)
      (λ (e : length t.big ≡ 0). let all : length t.small + length t.big ≡ length t.small = omega arith in
      omega (arith, low_less S t.odds t.small o.sorted.low, none_over (held t.odds) t.big e, o.due.total, ap (λ (m : ℕ). m * S) all))
      o.ended

  big_full : Full S t.odds t.big
  big_full =
      let all : length t.small + length t.big ≡ length t.big = omega (arith, no_small) in
      record { low = o.sorted.high; high = omega (arith, high_more S t.odds t.big o.sorted.high, none_over (held t.odds) t.small no_small, o.due.total, ap (λ (m : ℕ). m * S) all) }

  settled : settle S t.big (settle S t.small t.odds) ≡ t.odds
  unfolding settle
  settled = rw (nil_from_length t.small no_small) (settle_full S t.odds t.big big_full)

  over_most : (i : ℕ) → i < n → get_or t.odds i 0 ≤ S
  over_most i h =
      let one = sum_term n i (is_high S t.odds) h in
      let none : is_high S t.odds i ≡ 0 = omega (arith, o.sorted.cover (is_high S t.odds), none_over (is_high S t.odds) t.small no_small, big_full.high, o.due.most) in
      ltb-false _ _ (one_zero (ltb S (get_or t.odds i 0)) none)

  over_shares : (i : ℕ) → i < n → get_or t.odds i 0 + lent t.odds t.links S i ≡ n * get_or ws i 0
  unfolding lent_below
  over_shares i h =
      let long : sum_below (length t.odds) (lends t.odds t.links S i) ≡ sum_below n (lends t.odds t.links S i) = ap (λ (m : ℕ). sum_below m (lends t.odds t.links S i)) o.due.odds_long in
      omega (arith, o.sorted.cover (lends t.odds t.links S i), none_over (lends t.odds t.links S i) t.small no_small, full_lend S t.odds t.links i t.big big_full, o.due.draws i h)

-- ---- the builder's table
module _ (ws : List ℕ) where
  abbrev parted : Making
  parted = split (sum_of ws) (length ws) (begun ws)

  parted_odds : parted.odds ≡ scaled ws
  parted_odds = split_odds (sum_of ws) (length ws) (scaled ws) (replicate (length ws) 0)

  parted_sorted : Sorted (length ws) (sum_of ws) parted []
  parted_sorted = split_sorted (sum_of ws) (length ws) (scaled ws) (replicate (length ws) 0)

  parted_count : length parted.small + length parted.big ≡ length ws
  parted_count = omega (arith, sorted_count (length ws) (sum_of ws) parted [] parted_sorted)

  parted_at : (i : ℕ) → get_or parted.odds i 0 ≡ length ws * get_or ws i 0
  parted_at i = ap (λ (l : List ℕ). get_or l i 0) parted_odds ∙ scaled_at ws i

  parted_due : Due (length ws) (sum_of ws) ws parted []
  unfolding sum_of
  parted_due =
      let all : sum_below (length ws) (held parted.odds) ≡ length ws * sum_of ws = sum_same (length ws) _ _ (λ i l. parted_at i) ∙ sum_times (length ws) (length ws) (λ i. get_or ws i 0) ∙ ap (λ (x : ℕ). length ws * x) (sum_list ws) in
      record {
        odds_long = ap length parted_odds ∙ scaled_long ws;
        links_long = split_long (sum_of ws) (length ws) (scaled ws) (replicate (length ws) 0) ∙ length-replicate (length ws) 0;
        draws = λ i l. omega (arith, parted_at i);
        total = omega (arith, parted_sorted.cover (held parted.odds), ap (λ (m : ℕ). m * sum_of ws) parted_count);
        most = refl;
      }

  made_over : Over (length ws) (sum_of ws) ws (paired ws)
  unfolding paired
  made_over = pair_over (length ws) (length ws) (sum_of ws) ws parted.odds parted.links [] parted.small parted.big (omega (arith, parted_count)) parted_sorted parted_due

  -- the pairing ends because a list is empty
  pub pairing_ended : (length (paired ws).small ≡ 0) ⊎ (length (paired ws).big ≡ 0)
  pairing_ended = made_over.ended

  made_odds : odds_of ws ≡ (paired ws).odds
  unfolding odds_of
  made_odds = settled (length ws) (sum_of ws) ws (paired ws) made_over

  pub odds_long : length (odds_of ws) ≡ length ws
  odds_long = ap length made_odds ∙ made_over.due.odds_long

  pub links_long : length (links_of ws) ≡ length ws
  unfolding links_of
  links_long = made_over.due.links_long

  pub made_most : (i : ℕ) → i < length ws → get_or (odds_of ws) i 0 ≤ sum_of ws
  made_most i h = rw made_odds (over_most (length ws) (sum_of ws) ws (paired ws) made_over i h)

  -- the odds of a slot, and what is lent to it, come to n times its weight
  pub made_shares : (i : ℕ) → i < length ws → get_or (odds_of ws) i 0 + lent (odds_of ws) (links_of ws) (sum_of ws) i ≡ length ws * get_or ws i 0
  unfolding links_of
  made_shares i h = rw made_odds (over_shares (length ws) (sum_of ws) ws (paired ws) made_over i h)

  pub made_fair : fair ws (odds_of ws) (links_of ws) ≡ true
  made_fair =
      counts_fair ws (odds_of ws) (links_of ws)
      (λ i h. omega (arith, pairs_closed (odds_of ws) (links_of ws) (sum_of ws) i (omega (arith, odds_long)), made_most i h, made_shares i h))
