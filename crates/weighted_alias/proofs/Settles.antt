-- The settling of the lists: it follows the links to the list's end. And the builder's parts one after the other, which make the table of the
-- definitions whatever the lent slices held. Assumes nothing.
use Prim.Native.Nat.{ℕ, ◌<◌, ◌≤◌}
use native.Mathlib.Omega.{arith}
use mathlib.Core.Path.{◌≡◌, refl, sym, ap, ◌∙◌}
use mathlib.Core.List.{List, []}
use lib.ListN.{length, get_or, set, length-set, replicate, length-replicate}
use Rattle.counting.specs.Sum.{sum_of}
use Rattle.weighted_alias.specs.New.{Making, split, pair_up, settle, scaled, paired, odds_of, links_of}
use Rattle.weighted_alias.specs.Lists.{Heads, Chained, chain, listed, Runs, Sorted, Split, Ready, Left, Settles, unlisted}
use Rattle.weighted_alias.proofs.Places.{sorted_count, split_odds, split_sorted}
use Rattle.weighted_alias.proofs.Chains.{chain_is, chain_short, Member, member, no_member}
use Rattle.weighted_alias.proofs.Splits.{split_long, split_runs, split_forgets, making_is}

-- ---- the loop's invariant: the slots from `h` on are still to be settled
pub record Settling (n S : ℕ) (goal links odds : List ℕ) (h : ℕ) : Type 0 where
  pub rest : List ℕ
  pub few : n ≤ 4096
  pub long : length odds ≡ n
  pub links_long : length links ≡ n
  pub runs : Chained links h rest
  pub short : length rest ≤ n
  pub same : goal ≡ settle S rest odds

pub settle_begins : (S : ℕ) (odds links : List ℕ) (h : ℕ) → Settles odds links h → Settling (length odds) S (settle S (chain (length odds) links h) odds) links odds h
settle_begins S odds links h k =
    record { rest = chain (length odds) links h; few = k.few; long = refl; links_long = k.long; runs = k.runs; short = chain_short (length odds) links h; same = refl }

module _ (n S : ℕ) (goal links odds : List ℕ) (h : ℕ) (k : Settling n S goal links odds h) where
  pub settle_ends : h ≡ 4294967295 → odds ≡ goal
  unfolding settle
  settle_ends e = let none = no_member links h k.rest k.runs (omega (arith, k.links_long, k.few)) e in sym (rw none at k.same)

  module _ (more : h ≡ 4294967295 → ⊥) where
    head : Member links h k.rest
    head = member links h k.rest k.runs more

    pub settle_in : h < n
    settle_in = omega (arith, head.below, k.links_long)

    pub settle_goes_on : Settling n S goal links (set odds h S) (get_or links h 0)
    unfolding settle
    settle_goes_on =
        record { rest = head.rest; few = k.few; long = simp length-set k.long; links_long = k.links_long; runs = head.next; short = omega (arith, ap length head.is, k.short); same = rw head.is at k.same }

    pub settle_falls : length (chain n links (get_or links h 0)) < length (chain n links h)
    settle_falls =
        let all = ap length head.is in
        let few : length links ≤ 4096 = omega (arith, k.links_long, k.few) in
        let now = ap length (chain_is n links h k.rest k.runs k.short few) in
        let then = ap length (chain_is n links (get_or links h 0) head.rest head.next (omega (arith, k.short)) few) in
        omega arith

-- ---- the parts one after the other
module _ (S : ℕ) (odds links links' : List ℕ) (h : Heads) (k : Split S odds links (length odds) links' h) (long : length links ≡ length odds) (few : length odds ≤ 4096) where
  abbrev sorted : Making
  sorted = split S (length odds) (unlisted odds links)

  places : Sorted (length odds) S sorted []
  places = split_sorted S (length odds) odds links

  heads_run : Runs sorted h
  heads_run =
      let runs = split_runs S (length odds) odds links (omega arith) in
      record { smalls = rw k.small runs.smalls; bigs = rw k.big runs.bigs }

  listed_is : listed odds links' h ≡ sorted
  listed_is =
      let count = sorted_count (length odds) S sorted [] places in
      let short : length sorted.links ≤ 4096 = omega (arith, split_long S (length odds) odds links) in
      making_is (listed odds links' h) sorted (sym (split_odds S (length odds) odds links)) k.links_are
      (rw k.links_are (chain_is (length odds) sorted.links h.small sorted.small heads_run.smalls (omega arith) short))
      (rw k.links_are (chain_is (length odds) sorted.links h.big sorted.big heads_run.bigs (omega arith) short))

  pub split_ready : Ready S odds links' h
  split_ready = record { few = few; long = ap length k.links_are ∙ split_long S (length odds) odds links ∙ long; done = []; sorted = rw listed_is places; runs = rw listed_is heads_run }

  -- the pairing of what the code has is the pairing of the definition
  pub pairs_as : (ws : List ℕ) → S ≡ sum_of ws → odds ≡ scaled ws → length odds ≡ length ws → pair_up (length odds) S (listed odds links' h) ≡ paired ws
  unfolding paired
  pairs_as ws sum begins size =
      let forgets = rw long at (split_forgets S odds links (replicate (length ws) 0) (long ∙ size ∙ sym (length-replicate (length ws) 0))) in
      ap (λ (t : Making). pair_up (length odds) S t) (listed_is ∙ forgets) ∙ (rw (sum, size, begins))

-- the settling of what the pairing left
module _ (ws : List ℕ) (t : Making) (is : t ≡ paired ws) (odds links : List ℕ) (h : Heads) (l : Left t odds links h) (long : length links ≡ length odds) (few : length odds ≤ 4096) where
  left_small : chain (length odds) links h.small ≡ t.small
  left_small = rw l.links_are (chain_is (length odds) t.links h.small t.small l.runs.smalls (omega (arith, l.short)) (omega (arith, ap length l.links_are)))

  left_big : chain (length odds) links h.big ≡ t.big
  left_big = rw l.links_are (chain_is (length odds) t.links h.big t.big l.runs.bigs (omega (arith, l.short)) (omega (arith, ap length l.links_are)))

  pub settles_small : Settles odds links h.small
  settles_small = record { few = few; long = long; runs = rw (left_small, l.links_are) l.runs.smalls }

  pub settles_big : (odds' : List ℕ) → length odds' ≡ length odds → Settles odds' links h.big
  settles_big odds' size = record { few = omega arith; long = omega arith; runs = rw (size, left_big, l.links_are) l.runs.bigs }

  pub odds_made : (S : ℕ) (odds' odds'' : List ℕ) → S ≡ sum_of ws → length odds' ≡ length odds → odds' ≡ settle S (chain (length odds) links h.small) odds → odds'' ≡ settle S (chain (length odds') links h.big) odds' → odds'' ≡ odds_of ws
  unfolding odds_of
  odds_made S odds' odds'' sum size one two =
      two ∙ (rw (size, left_big, one, left_small, l.odds_are, is, sum))

  pub links_made : links ≡ links_of ws
  unfolding links_of
  links_made = l.links_are ∙ ap (λ (x : Making). x.links) is
