-- The split of the slots into two lists: how the code's heads and links follow it slot by slot, that both lists then run through the links, and
-- that nothing of what the links held shows afterwards, since every link is written. Assumes nothing.
use Prim.Native.Nat.{ℕ, zero, suc, ◌+◌, ◌<◌, ◌≤◌}
use native.Mathlib.Omega.{arith}
use native.Mathlib.Numerals.{add-one}
use mathlib.Core.Bool.{Bool, true, false, cond}
use mathlib.Core.Path.{◌≡◌, refl, sym, ap, ◌∙◌}
use mathlib.Core.List.{List, []}
use lib.Dec.{ltb}
use lib.ListN.{length, get_or, set, length-set}
use lib.Seq.{get_or-set_same, get_or-set_other, ext_get_or}
use Rattle.counting.proofs.Below.{Next, earlier, latest, next}
use Rattle.weighted_alias.specs.New.{Making, making, head_of, on_small, on_big, push, split}
use Rattle.weighted_alias.specs.Lists.{Heads, Chained, Runs, Split, Pushed, unlisted}
use Rattle.weighted_alias.proofs.Places.{alone, split_odds, split_open, split_sorted}
use Rattle.weighted_alias.proofs.Chains.{chained_head, heads_after, push_runs}

-- ---- what a push writes
pub push_links : (S x : ℕ) (t : Making) → (push S x t).links ≡ set t.links x (cond (ltb (get_or t.odds x 0) S) (head_of t.small) (head_of t.big))
push_links S x t = go (ltb (get_or t.odds x 0) S)
  where
    go : (b : Bool) → (cond b (on_small x t) (on_big x t)).links ≡ set t.links x (cond b (head_of t.small) (head_of t.big))
    go true = refl
    go false = refl

pub push_count : (S x : ℕ) (t : Making) → length (push S x t).small + length (push S x t).big ≡ length t.small + length t.big + 1
push_count S x t = go (ltb (get_or t.odds x 0) S)
  where
    go : (b : Bool) → length (cond b (on_small x t) (on_big x t)).small + length (cond b (on_small x t) (on_big x t)).big ≡ length t.small + length t.big + 1
    go true = omega arith
    go false = omega arith

push_small : (S x : ℕ) (t : Making) → head_of (push S x t).small ≡ cond (ltb (get_or t.odds x 0) S) x (head_of t.small)
push_small S x t = go (ltb (get_or t.odds x 0) S)
  where
    go : (b : Bool) → head_of (cond b (on_small x t) (on_big x t)).small ≡ cond b x (head_of t.small)
    go true = refl
    go false = refl

push_big : (S x : ℕ) (t : Making) → head_of (push S x t).big ≡ cond (ltb (get_or t.odds x 0) S) (head_of t.big) x
push_big S x t = go (ltb (get_or t.odds x 0) S)
  where
    go : (b : Bool) → head_of (cond b (on_small x t) (on_big x t)).big ≡ cond b (head_of t.big) x
    go true = refl
    go false = refl

-- ---- the code follows the split
pub split_begins : (S : ℕ) (odds links : List ℕ) (h : Heads) → h.small ≡ 4294967295 → h.big ≡ 4294967295 → Split S odds links 0 links h
unfolding split
split_begins S odds links h a b = record { small = a; big = b; links_are = refl }

pub split_goes_on : (S : ℕ) (odds links now after : List ℕ) (i : ℕ) (h r : Heads) → Split S odds links i now h → Pushed S odds now h i r after → Split S odds links (i + 1) after r
unfolding split
split_goes_on S odds links now after i h r k p =
    let t = split S i (unlisted odds links) in
    let same : get_or (split S i (unlisted odds links)).odds i 0 ≡ get_or odds i 0 = ap (λ (o : List ℕ). get_or o i 0) (split_odds S i odds links) in
    rw add-one
    (record {
      small = p.small ∙ sym (push_small S i (split S i (unlisted odds links)) ∙ rw (same, k.small));
      big = p.big ∙ sym (push_big S i (split S i (unlisted odds links)) ∙ rw (same, k.big));
      links_are = p.links_are ∙ sym (push_links S i (split S i (unlisted odds links)) ∙ rw (same, k.small, k.big, k.links_are));
    })

-- ---- both lists run through the links
abbrev pub heads_of : Making → Heads
heads_of t = record { small = head_of t.small; big = head_of t.big }

own_heads : (t : Making) (h : Heads) → Runs t h → Runs t (heads_of t)
own_heads t h r =
    record { smalls = rw (← chained_head t.links h.small t.small r.smalls) r.smalls; bigs = rw (← chained_head t.links h.big t.big r.bigs) r.bigs }

pub split_long : (S i : ℕ) (odds links : List ℕ) → length (split S i (unlisted odds links)).links ≡ length links
unfolding split
split_long S zero odds links = refl
split_long S (suc i) odds links =
    ap length (push_links S i (split S i (unlisted odds links))) ∙ simp length-set (split_long S i odds links)

split_runs_next : (S i : ℕ) (odds links : List ℕ) → i < length links → Runs (split S i (unlisted odds links)) (heads_of (split S i (unlisted odds links)))
    → Runs (push S i (split S i (unlisted odds links))) (heads_of (push S i (split S i (unlisted odds links))))
split_runs_next S i odds links h r =
    let t = split S i (unlisted odds links) in
    let a = alone (suc i) S t [] i (split_open S i t (split_sorted S i odds links)) in
    own_heads (push S i t) (heads_after S i t (heads_of t)) (push_runs (suc i) S i t [] (heads_of t) a (omega (arith, split_long S i odds links)) r)

pub split_runs : (S i : ℕ) (odds links : List ℕ) → i ≤ length links → Runs (split S i (unlisted odds links)) (heads_of (split S i (unlisted odds links)))
unfolding split Chained
split_runs S zero odds links h = record { smalls = refl; bigs = refl }
split_runs S (suc i) odds links h = split_runs_next S i odds links h (split_runs S i odds links (omega arith))

-- ---- what the links held does not show
record Alike (i : ℕ) (t u : Making) : Type 0 where
  odds_are : t.odds ≡ u.odds
  small_is : t.small ≡ u.small
  big_is : t.big ≡ u.big
  long : length t.links ≡ length u.links
  links_are : (k : ℕ) → k < i → get_or t.links k 0 ≡ get_or u.links k 0

links_alike : (l m : List ℕ) (i v : ℕ) → length l ≡ length m → i < length l → ((k : ℕ) → k < i → get_or l k 0 ≡ get_or m k 0) → (k : ℕ) → k < suc i → get_or (set l i v) k 0 ≡ get_or (set m i v) k 0
links_alike l m i v long inside h k less = go (next k i less)
  where
    go : Next k i → get_or (set l i v) k 0 ≡ get_or (set m i v) k 0
    go (earlier q) = get_or-set_other l i k v 0 (omega arith) ∙ h k q ∙ sym (get_or-set_other m i k v 0 (omega arith))
    go (latest e) = rw e (get_or-set_same l i v 0 inside ∙ sym (get_or-set_same m i v 0 (omega arith)))

push_alike : (S i : ℕ) (t u : Making) → Alike i t u → i < length t.links → Alike (suc i) (push S i t) (push S i u)
push_alike S i t u a inside =
    let same : ltb (get_or t.odds i 0) S ≡ ltb (get_or u.odds i 0) S = ap (λ (o : List ℕ). ltb (get_or o i 0) S) a.odds_are in
    rw same (go (ltb (get_or u.odds i 0) S))
  where
    go : (b : Bool) → Alike (suc i) (cond b (on_small i t) (on_big i t)) (cond b (on_small i u) (on_big i u))
    go true =
        rw (← a.small_is)
        (record { odds_are = a.odds_are; small_is = refl; big_is = a.big_is; long = simp length-set a.long; links_are = links_alike t.links u.links i (head_of t.small) a.long inside a.links_are })
    go false =
        rw (← a.big_is)
        (record { odds_are = a.odds_are; small_is = a.small_is; big_is = refl; long = simp length-set a.long; links_are = links_alike t.links u.links i (head_of t.big) a.long inside a.links_are })

split_alike : (S i : ℕ) (odds links other : List ℕ) → length links ≡ length other → i ≤ length links → Alike i (split S i (unlisted odds links)) (split S i (unlisted odds other))
unfolding split
split_alike S zero odds links other long h = record { odds_are = refl; small_is = refl; big_is = refl; long = long; links_are = λ k l. absurd (omega arith) }
split_alike S (suc i) odds links other long h = push_alike S i (split S i (unlisted odds links)) (split S i (unlisted odds other)) (split_alike S i odds links other long (omega arith)) (omega (arith, split_long S i odds links))

pub making_is : (t u : Making) → t.odds ≡ u.odds → t.links ≡ u.links → t.small ≡ u.small → t.big ≡ u.big → t ≡ u
making_is t u a b c d =
    let parts : making t.odds t.links t.small t.big ≡ making u.odds u.links u.small u.big = rw (a, b, c, d) in
    parts

pub split_forgets : (S : ℕ) (odds links other : List ℕ) → length links ≡ length other → split S (length links) (unlisted odds links) ≡ split S (length links) (unlisted odds other)
split_forgets S odds links other long =
    let a = split_alike S (length links) odds links other long (omega arith) in
    making_is _ _ a.odds_are (ext_get_or 0 _ _ a.long (λ i l. a.links_are i (omega (arith, split_long S (length links) odds links)))) a.small_is a.big_is
