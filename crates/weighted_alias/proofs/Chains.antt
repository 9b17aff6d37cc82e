-- Lists that run through the links from their heads. A store into the link of a slot that is on neither list leaves both as they were, so a slot
-- can be put on the head of one; and a list is known by its head. Assumes nothing.
use Prim.Native.Nat.{ℕ, zero, suc, ◌<◌, ◌≤◌}
use native.Mathlib.Omega.{arith}
use mathlib.Core.Bool.{Bool, true, false, cond}
use mathlib.Core.Path.{◌≡◌, refl, sym, ap}
use mathlib.Core.List.{List, [], ◌∷◌}
use borrow.Author.Tests.{eq-eqb, ne_eqb, eqb-false}
use lib.Dec.{ltb, eqb}
use lib.ListN.{length, get_or, set, length-set}
use lib.Seq.{get_or-set_same, get_or-set_other}
use Rattle.counting.specs.Sum.{sum_of}
use Rattle.weighted_alias.specs.New.{Making, head_of, on_small, on_big, push}
use Rattle.weighted_alias.specs.Lists.{Heads, Chained, chain, Runs, over, once}
use Rattle.weighted_alias.proofs.Places.{one_zero, Alone}

pub chained_head : (links : List ℕ) (h : ℕ) (xs : List ℕ) → Chained links h xs → h ≡ head_of xs
unfolding Chained
chained_head links h [] c = c
chained_head links h (x ∷ xs) c = c.0

-- a store into the link of a slot that is not on the list
pub chained_set : (links : List ℕ) (h x v : ℕ) (xs : List ℕ) → Chained links h xs → over (once x) xs ≡ 0 → Chained (set links x v) h xs
unfolding Chained sum_of
chained_set links h x v [] c e = c
chained_set links h x v (y ∷ ys) c e =
    let apart : once x y ≡ 0 = omega arith in
    let kept : get_or (set links x v) y 0 ≡ get_or links y 0 = get_or-set_other links x y v 0 (λ q. eqb-false x y (one_zero (eqb x y) apart) (sym q)) in
    (c.0, rw length-set c.1, rw kept (chained_set links (get_or links y 0) x v ys c.2 (omega arith)))

-- a slot that is not on the list is put on its head
pub chained_push : (links : List ℕ) (h x : ℕ) (xs : List ℕ) → Chained links h xs → over (once x) xs ≡ 0 → x < length links → Chained (set links x h) x (x ∷ xs)
unfolding Chained
chained_push links h x xs c e l = (refl, rw length-set l, rw (get_or-set_same links x h 0 l) (chained_set links h x h xs c e))

-- a list is known by its head
pub chain_is : (k : ℕ) (links : List ℕ) (h : ℕ) (xs : List ℕ) → Chained links h xs → length xs ≤ k → length links ≤ 4096 → chain k links h ≡ xs
unfolding Chained chain
chain_is zero links h [] c l few = refl
chain_is zero links h (x ∷ xs) c l few = absurd (omega arith)
chain_is (suc k) links h [] c l few = rw (eq-eqb h 4294967295 c)
chain_is (suc k) links h (x ∷ xs) c l few =
    let more : h ≡ 4294967295 → ⊥ = λ e. omega (arith, c.0, c.1) in
    rw (ne_eqb h 4294967295 more, c.0, chain_is k links (get_or links x 0) xs c.2 (omega arith) few)

pub chain_short : (k : ℕ) (links : List ℕ) (h : ℕ) → length (chain k links h) ≤ k
unfolding chain
chain_short zero links h = omega arith
chain_short (suc k) links h = go (eqb h 4294967295) (chain_short k links (get_or links h 0))
  where
    go : (b : Bool) → length (chain k links (get_or links h 0)) ≤ k → length (cond b [] (h ∷ chain k links (get_or links h 0))) ≤ suc k
    go true l = omega arith
    go false l = omega arith

-- a list whose head is not the end mark has a member, and one whose head is it has none
pub record Member (links : List ℕ) (h : ℕ) (xs : List ℕ) : Type 0 where
  pub rest : List ℕ
  pub is : xs ≡ h ∷ rest
  pub below : h < length links
  pub next : Chained links (get_or links h 0) rest

pub member : (links : List ℕ) (h : ℕ) (xs : List ℕ) → Chained links h xs → (h ≡ 4294967295 → ⊥) → Member links h xs
unfolding Chained
member links h [] c more = absurd (more c)
member links h (x ∷ xs) c more =
    record { rest = xs; is = ap (λ (y : ℕ). y ∷ xs) (sym c.0); below = rw c.0 c.1; next = rw c.0 c.2 }

pub no_member : (links : List ℕ) (h : ℕ) (xs : List ℕ) → Chained links h xs → length links ≤ 4096 → h ≡ 4294967295 → xs ≡ []
unfolding Chained
no_member links h [] c few e = refl
no_member links h (x ∷ xs) c few e = absurd (omega (arith, c.0, c.1))

-- ---- both lists
-- the heads after a push, by the odds
abbrev pub heads_after : ℕ → ℕ → Making → Heads → Heads
heads_after S x t h = record { small = cond (ltb (get_or t.odds x 0) S) x h.small; big = cond (ltb (get_or t.odds x 0) S) h.big x }

pub push_runs : (n S x : ℕ) (t : Making) (done : List ℕ) (h : Heads) → Alone n x t done → x < length t.links → Runs t h → Runs (push S x t) (heads_after S x t h)
push_runs n S x t done h a l r = go (ltb (get_or t.odds x 0) S)
  where
    go : (b : Bool) → Runs (cond b (on_small x t) (on_big x t)) (record { small = cond b x h.small; big = cond b h.big x })
    go true =
        rw (← chained_head t.links h.small t.small r.smalls)
        (record { smalls = chained_push t.links h.small x t.small r.smalls a.off_small l; bigs = chained_set t.links h.big x h.small t.big r.bigs a.off_big })
    go false =
        rw (← chained_head t.links h.big t.big r.bigs)
        (record { smalls = chained_set t.links h.small x h.big t.small r.smalls a.off_small; bigs = chained_push t.links h.big x t.big r.bigs a.off_big l })
