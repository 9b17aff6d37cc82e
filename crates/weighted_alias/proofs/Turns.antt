-- The turns of the pairing. In a turn the heads are known: one has odds below the sum and the other has not, so nothing wraps; the slot that
-- goes back on a list is on none, so the lists run on; and one slot fewer is on them, so the pairing ends, and ends because a list is empty.
-- Assumes nothing.
use Prim.Native.Nat.{ℕ, zero, suc, ◌+◌, ◌≤◌}
use native.Mathlib.Omega.{arith}
use mathlib.Core.Path.{◌≡◌, refl, sym, ap, ◌∙◌}
use mathlib.Core.List.{List, [], ◌∷◌}
use lib.ListN.{length, get_or, set, length-set}
use Rattle.weighted_alias.specs.New.{Making, making, push, pair_heads, pair_up}
use Rattle.weighted_alias.specs.Lists.{Heads, Chained, chain, listed, Runs, Sorted, Turn, Turned, odds_turned, rest_heads, Ready, Left}
use Rattle.weighted_alias.proofs.Places.{HeadsAre, heads, sorted_count, small_alone, turn_open, push_sorted, push_odds, Open, alone}
use Rattle.weighted_alias.proofs.Chains.{chained_head, chained_set, chain_is, member, no_member, heads_after, push_runs}
use Rattle.weighted_alias.proofs.Splits.{push_links, push_count}

-- ---- the pairing stands still once a list is empty
pub still : (k S : ℕ) (t : Making) → pair_heads S t.small t.big t ≡ t → pair_up k S t ≡ t
unfolding pair_up
still zero S t e = refl
still (suc k) S t e = ap (λ (u : Making). pair_up k S u) e ∙ still k S t e

no_small : (S : ℕ) (ss bs : List ℕ) (t : Making) → ss ≡ [] → pair_heads S ss bs t ≡ t
no_small S [] bs t e = refl
no_small S (s ∷ ss) bs t e = absurd (let z : ◌≡◌ {A = ℕ} 0 1 = cc in omega arith)

no_big : (S : ℕ) (ss bs : List ℕ) (t : Making) → bs ≡ [] → pair_heads S ss bs t ≡ t
no_big S [] bs t e = refl
no_big S (s ∷ ss) [] t e = refl
no_big S (s ∷ ss) (b ∷ bs) t e = absurd (let z : ◌≡◌ {A = ℕ} 0 1 = cc in omega arith)

-- ---- the loop's invariant: what the code has before it is a table in the making from which the pairing ends in `goal`
pub record Pairing (n S : ℕ) (goal : Making) (odds links : List ℕ) (h : Heads) : Type 0 where
  pub small : List ℕ
  pub big : List ℕ
  pub done : List ℕ
  pub turns : ℕ
  pub few : n ≤ 4096
  pub long : length odds ≡ n
  pub links_long : length links ≡ n
  pub sorted : Sorted n S (making odds links small big) done
  pub runs : Runs (making odds links small big) h
  pub same : goal ≡ pair_up turns S (making odds links small big)
  pub enough : length small + length big ≤ turns

pub pairing_begins : (S : ℕ) (odds links : List ℕ) (h : Heads) → Ready S odds links h → Pairing (length odds) S (pair_up (length odds) S (listed odds links h)) odds links h
pairing_begins S odds links h k =
    record {
      small = chain (length odds) links h.small;
      big = chain (length odds) links h.big;
      done = k.done;
      turns = length odds;
      few = k.few;
      long = refl;
      links_long = k.long;
      sorted = k.sorted;
      runs = k.runs;
      same = refl;
      enough = omega (arith, sorted_count (length odds) S (listed odds links h) k.done k.sorted);
    }

-- how many slots are on the lists, by what the code has before it
abbrev pub on_lists : ℕ → List ℕ → Heads → ℕ
on_lists n links h = length (chain n links h.small) + length (chain n links h.big)

pub on_lists_lem : (n S : ℕ) (goal : Making) (odds links : List ℕ) (h : Heads) (p : Pairing n S goal odds links h) → on_lists n links h ≡ length p.small + length p.big
on_lists_lem n S goal odds links h p =
    let all = sorted_count n S (making odds links p.small p.big) p.done p.sorted in
    let smalls = chain_is n links h.small p.small p.runs.smalls (omega arith) (omega (arith, p.few, p.links_long)) in
    let bigs = chain_is n links h.big p.big p.runs.bigs (omega arith) (omega (arith, p.few, p.links_long)) in
    rw (smalls, bigs)

-- ---- a turn: both lists have a member
pub record Opened (n S : ℕ) (goal : Making) (odds links : List ℕ) (h : Heads) (members : ℕ) : Type 0 where
  small : List ℕ
  big : List ℕ
  done : List ℕ
  turns : ℕ
  few : n ≤ 4096
  long : length odds ≡ n
  links_long : length links ≡ n
  sorted : Sorted n S (making odds links (h.small ∷ small) (h.big ∷ big)) done
  smalls : Chained links (get_or links h.small 0) small
  bigs : Chained links (get_or links h.big 0) big
  same : goal ≡ pair_up (suc turns) S (making odds links (h.small ∷ small) (h.big ∷ big))
  enough : length small + length big + 1 ≤ turns
  are : length small + length big + 2 ≡ members

one_more : (m k : ℕ) → m + 2 ≤ k → (t : ℕ) × (k ≡ suc t) × (m + 1 ≤ t)
one_more m zero h = absurd (omega arith)
one_more m (suc t) h = (t, refl, omega arith)

pub opened : (n S : ℕ) (goal : Making) (odds links : List ℕ) (h : Heads) (p : Pairing n S goal odds links h) → (h.small ≡ 4294967295 → ⊥) → (h.big ≡ 4294967295 → ⊥) → Opened n S goal odds links h (length p.small + length p.big)
opened n S goal odds links h p more_small more_big =
    let s = member links h.small p.small p.runs.smalls more_small in
    let b = member links h.big p.big p.runs.bigs more_big in
    let sizes : length s.rest + length b.rest + 2 ≡ length p.small + length p.big = omega (arith, ap length s.is, ap length b.is) in
    let turn = one_more (length s.rest + length b.rest) p.turns (omega (arith, p.enough)) in
    record {
      small = s.rest;
      big = b.rest;
      done = p.done;
      turns = turn.0;
      few = p.few;
      long = p.long;
      links_long = p.links_long;
      sorted = rw (← s.is, ← b.is) p.sorted;
      smalls = s.next;
      bigs = b.next;
      same = rw (← turn.1, ← s.is, ← b.is) p.same;
      enough = turn.2;
      are = sizes;
    }

module _ (n S : ℕ) (goal : Making) (odds links : List ℕ) (h : Heads) (members : ℕ) (o : Opened n S goal odds links h members) where
  facing : HeadsAre n S odds h.small h.big
  facing = heads n S odds links o.done h.small o.small h.big o.big o.sorted

  pub turn_takes : Turn S odds links h
  turn_takes =
      let f = facing in
      let long = o.long in
      record { few = omega (arith, o.few); long = omega (arith, o.links_long); small_in = omega (arith, f.small_in); big_in = omega (arith, f.big_in); less = f.less; more = f.more }

  -- the table without the heads, where b is to be put on a list
  abbrev off : Making
  off = making (odds_turned S odds h) (set links h.small h.big) o.small o.big

  abbrev on : Making
  on = push S h.big off

  off_open : Open n S off (h.small ∷ o.done) h.big
  off_open = turn_open n S odds links o.done h.small o.small h.big o.big o.sorted _ _

  off_runs : Runs off (rest_heads links h)
  off_runs =
      let a = small_alone n S odds links o.done h.small o.small h.big o.big o.sorted in
      record {
        smalls = chained_set links _ h.small h.big o.small o.smalls a.off_small;
        bigs = chained_set links _ h.small h.big o.big o.bigs a.off_big;
      }

  on_runs : Runs on (heads_after S h.big off (rest_heads links h))
  on_runs =
      push_runs n S h.big off (h.small ∷ o.done) (rest_heads links h) (alone n S off (h.small ∷ o.done) h.big off_open) (simp length-set (omega (arith, o.links_long, facing.big_in))) off_runs

  -- the next turn begins with one slot fewer on the lists
  turns_on : (odds' links' : List ℕ) (r : Heads) → Turned S odds links h odds' links' r → (p : Pairing n S goal odds' links' r) × (length p.small + length p.big + 1 ≡ members)
  unfolding pair_up
  turns_on odds' links' r w =
      let small_head = chained_head links (get_or links h.small 0) o.small o.smalls in
      let big_head = chained_head links (get_or links h.big 0) o.big o.bigs in
      let odds_are : odds' ≡ on.odds = w.odds_are ∙ sym (push_odds S h.big off) in
      let links_are : links' ≡ on.links = w.pushed.links_are ∙ sym (push_links S h.big off ∙ rw (← small_head, ← big_head)) in
      rw (odds_are, links_are) (
        record {
          small = on.small;
          big = on.big;
          done = h.small ∷ o.done;
          turns = o.turns;
          few = o.few;
          long = ap length (push_odds S h.big off) ∙ simp length-set o.long;
          links_long = ap length (push_links S h.big off) ∙ simp length-set o.links_long;
          sorted = push_sorted n S off (h.small ∷ o.done) h.big off_open;
          runs = record { smalls = rw w.pushed.small on_runs.smalls; bigs = rw w.pushed.big on_runs.bigs };
          same = o.same;
          enough = omega (arith, push_count S h.big off, o.enough);
        },
        omega (arith, push_count S h.big off, o.are),
      )

  pub turned : (odds' links' : List ℕ) (r : Heads) → Turned S odds links h odds' links' r → Pairing n S goal odds' links' r
  turned odds' links' r w = (turns_on odds' links' r w).0

  pub fewer : (odds' links' : List ℕ) (r : Heads) → Turned S odds links h odds' links' r → on_lists n links' r + 1 ≡ members
  fewer odds' links' r w =
      let count = on_lists_lem n S goal odds' links' r (turns_on odds' links' r w).0 in
      omega (arith, (turns_on odds' links' r w).1)

-- ---- the end: a list is empty
module _ (n S : ℕ) (goal : Making) (odds links : List ℕ) (h : Heads) (p : Pairing n S goal odds links h) where
  left : goal ≡ making odds links p.small p.big → Left goal odds links h
  left e =
      rw e
      (record { odds_are = refl; links_are = refl; runs = p.runs; short = omega (arith, p.long, sorted_count n S (making odds links p.small p.big) p.done p.sorted) })

  few : length links ≤ 4096
  few = omega (arith, p.few, p.links_long)

  pub ends_small : h.small ≡ 4294967295 → Left goal odds links h
  ends_small e = left (p.same ∙ still p.turns S _ (no_small S p.small p.big _ (no_member links h.small p.small p.runs.smalls few e)))

  pub ends_big : h.big ≡ 4294967295 → Left goal odds links h
  ends_big e = left (p.same ∙ still p.turns S _ (no_big S p.small p.big _ (no_member links h.big p.big p.runs.bigs few e)))
