-- Sums, counts, questions and lists over the numbers below n: term by term, in either order, and what a sum that is as large as it can be says
-- of each term. Each by going up to n. Assumes nothing.
use Prim.Native.Nat.{ℕ, zero, suc, ◌+◌, ◌*◌, ◌≤◌, ◌<◌}
use native.Mathlib.Omega.{arith}
use native.Mathlib.Nat.{zero-mul, suc-mul, mul-zero, mul-add}
use native.Mathlib.Numerals.{add-one}
use mathlib.Core.Bool.{Bool, true, false, cond, not, ◌&&◌}
use mathlib.Core.Path.{◌≡◌, refl, sym, ◌∙◌}
use mathlib.Core.List.{List, [], ◌∷◌, ◌++◌}
use borrow.Author.Tests.{lt-ltb, le-ltb, eqb-true, eqb-false, ltb-true, ltb-false}
use lib.Dec.{ltb, eqb}
use lib.ListN.{length, get_or, length-append, get_or-append}
use lib.Seq.{get_or_at, ext_get_or}
use Rattle.counting.specs.Sum.{sum_of}
use Rattle.counting.specs.Below.{sum_below, how_many, all_below, some_below, list_below}

-- ---- a number below the next one is below it, or is it
pub data Next (i n : ℕ) : Type 0 where
  earlier : i < n → Next i n
  latest : i ≡ n → Next i n

pub next : (i n : ℕ) → i < suc n → Next i n
next i n h = go (ltb i n) refl
  where
    go : (b : Bool) → ltb i n ≡ b → Next i n
    go true e = earlier (ltb-true i n e)
    go false e = latest (omega (arith, ltb-false i n e))

-- ---- sums
pub sum_step : (n : ℕ) (f : ℕ → ℕ) → sum_below (n + 1) f ≡ sum_below n f + f n
unfolding sum_below
sum_step n f = rw add-one

pub sum_same : (n : ℕ) (f g : ℕ → ℕ) → ((i : ℕ) → i < n → f i ≡ g i) → sum_below n f ≡ sum_below n g
unfolding sum_below
sum_same zero f g h = refl
sum_same (suc n) f g h = omega (arith, sum_same n f g (λ i l. h i (omega arith)), h n (omega arith))

pub sum_two : (n : ℕ) (f g : ℕ → ℕ) → sum_below n (λ i. f i + g i) ≡ sum_below n f + sum_below n g
unfolding sum_below
sum_two zero f g = omega arith
sum_two (suc n) f g = omega (arith, sum_two n f g)

pub sum_each : (n k : ℕ) → sum_below n (λ i. k) ≡ n * k
unfolding sum_below
sum_each zero k = sym (zero-mul k)
sum_each (suc n) k = omega (arith, sum_each n k, suc-mul n k)

pub sum_times : (n k : ℕ) (f : ℕ → ℕ) → sum_below n (λ i. k * f i) ≡ k * sum_below n f
unfolding sum_below
sum_times zero k f = sym (mul-zero k)
sum_times (suc n) k f = omega (arith, sum_times n k f, mul-add k (sum_below n f) (f n))

pub sum_up_to : (m n : ℕ) (f : ℕ → ℕ) → m ≤ n → sum_below m f ≤ sum_below n f
unfolding sum_below
sum_up_to m zero f h = let none : m ≡ 0 = omega arith in rw none (omega arith)
sum_up_to m (suc n) f h = go (ltb n m) refl (sum_up_to m n f)
  where
    go : (b : Bool) → ltb n m ≡ b → (m ≤ n → sum_below m f ≤ sum_below n f) → sum_below m f ≤ sum_below n f + f n
    go true e ih = let all : m ≡ suc n = omega (arith, ltb-true n m e) in rw all (omega arith)
    go false e ih = omega (arith, ih (ltb-false n m e))

-- the terms below a, and then b more
pub sum_parts : (a b : ℕ) (f : ℕ → ℕ) → sum_below (a + b) f ≡ sum_below a f + sum_below b (λ i. f (a + i))
unfolding sum_below
sum_parts a zero f = let all : a + 0 ≡ a = omega arith in rw all (omega arith)
sum_parts a (suc b) f = let all : a + suc b ≡ suc (a + b) = omega arith in rw all (omega (arith, sum_parts a b f))

-- one term
pub sum_term : (n i : ℕ) (f : ℕ → ℕ) → i < n → f i ≤ sum_below n f
unfolding sum_below
sum_term zero i f h = absurd (omega arith)
sum_term (suc n) i f h = go (next i n h) (sum_term n i f)
  where
    go : Next i n → (i < n → f i ≤ sum_below n f) → f i ≤ sum_below n f + f n
    go (earlier l) ih = omega (arith, ih l)
    go (latest e) ih = rw e (omega arith)

-- a double sum may be taken in either order
pub sum_turned : (n m : ℕ) (f : ℕ → ℕ → ℕ) → sum_below n (λ i. sum_below m (λ j. f i j)) ≡ sum_below m (λ j. sum_below n (λ i. f i j))
unfolding sum_below
sum_turned zero m f = sym (sum_each m 0 ∙ mul-zero m)
sum_turned (suc n) m f = omega (arith, sum_turned n m f, sum_two m (λ j. sum_below n (λ i. f i j)) (λ j. f n j))

-- of terms that are 0 but where i is x, one is left if x is below n, and else none
pub sum_only : (n x : ℕ) (f : ℕ → ℕ) → sum_below n (λ i. cond (eqb x i) (f i) 0) ≡ cond (ltb x n) (f x) 0
unfolding sum_below
sum_only zero x f = rw (le-ltb x 0 (omega arith))
sum_only (suc n) x f = go (eqb x n) refl (sum_only n x f)
  where
    go : (b : Bool) → eqb x n ≡ b → sum_below n (λ i. cond (eqb x i) (f i) 0) ≡ cond (ltb x n) (f x) 0 → sum_below n (λ i. cond (eqb x i) (f i) 0) + cond b (f n) 0 ≡ cond (ltb x (suc n)) (f x) 0
    go true e ih =
        let same = eqb-true x n e in
        let none : sum_below n (λ i. cond (eqb x i) (f i) 0) ≡ 0 = rw (le-ltb x n (omega arith)) at ih in
        rw (lt-ltb x (suc n) (omega arith), same) (let z = rw same at none in omega arith)
    go false e ih = after (ltb x n) refl
      where
        after : (b : Bool) → ltb x n ≡ b → sum_below n (λ i. cond (eqb x i) (f i) 0) + 0 ≡ cond (ltb x (suc n)) (f x) 0
        after true l = rw (lt-ltb x (suc n) (omega (arith, ltb-true x n l))) (let z = rw l at ih in omega arith)
        after false l = rw (le-ltb x (suc n) (omega (arith, ltb-false x n l, eqb-false x n e))) (let z = rw l at ih in omega arith)

pub sum_most : (n k : ℕ) (f : ℕ → ℕ) → ((i : ℕ) → i < n → f i ≤ k) → sum_below n f ≤ n * k
unfolding sum_below
sum_most zero k f most = omega (arith, zero-mul k)
sum_most (suc n) k f most = omega (arith, suc-mul n k, most n (omega arith), sum_most n k f (λ i l. most i (omega arith)))

sum_first : (n : ℕ) (f : ℕ → ℕ) → sum_below (suc n) f ≡ f 0 + sum_below n (λ i. f (suc i))
unfolding sum_below
sum_first zero f = omega arith
sum_first (suc n) f = omega (arith, sum_first n f)

-- terms of at most k whose sum is n times k are each k
pub sum_tight : (n k : ℕ) (f : ℕ → ℕ) → ((i : ℕ) → i < n → f i ≤ k) → n * k ≤ sum_below n f → (i : ℕ) → i < n → f i ≡ k
unfolding sum_below
sum_tight zero k f most all i h = absurd (omega arith)
sum_tight (suc n) k f most all i h = go (next i n h) (λ full. sum_tight n k f (λ j l. most j (omega arith)) full)
  where
    rest : sum_below n f ≤ n * k
    rest = sum_most n k f (λ j l. most j (omega arith))

    go : Next i n → (n * k ≤ sum_below n f → (j : ℕ) → j < n → f j ≡ k) → f i ≡ k
    go (earlier l) ih = ih (omega (arith, suc-mul n k, most n (omega arith))) i l
    go (latest e) ih = rw e (omega (arith, suc-mul n k, most n (omega arith), rest))

-- ---- questions
pub all_true : (n : ℕ) (test : ℕ → Bool) → ((i : ℕ) → i < n → test i ≡ true) → all_below n test ≡ true
unfolding all_below
all_true zero test h = refl
all_true (suc n) test h = rw (all_true n test (λ i l. h i (omega arith)), h n (omega arith))

both : (a b : Bool) → (a && b) ≡ true → (a ≡ true) × (b ≡ true)
both true b e = (refl, e)
both false b e = absurd (let z : ◌≡◌ {A = ℕ} 0 1 = cc in omega arith)

pub all_at : (n : ℕ) (test : ℕ → Bool) → all_below n test ≡ true → (i : ℕ) → i < n → test i ≡ true
unfolding all_below
all_at zero test e i h = absurd (omega arith)
all_at (suc n) test e i h = go (next i n h) (all_at n test (both (all_below n test) (test n) e).0 i)
  where
    go : Next i n → (i < n → test i ≡ true) → test i ≡ true
    go (earlier l) ih = ih l
    go (latest q) ih = rw q (both (all_below n test) (test n) e).1

-- a test that fails once
pub all_false : (n : ℕ) (test : ℕ → Bool) (i : ℕ) → i < n → test i ≡ false → all_below n test ≡ false
all_false n test i h e = go (all_below n test) refl
  where
    go : (b : Bool) → all_below n test ≡ b → all_below n test ≡ false
    go true q = absurd (let z = sym (all_at n test q i h) ∙ e in let y : ◌≡◌ {A = ℕ} 0 1 = cc in omega arith)
    go false q = q

pub all_same : (n : ℕ) (f g : ℕ → Bool) → ((i : ℕ) → i < n → f i ≡ g i) → all_below n f ≡ all_below n g
unfolding all_below
all_same zero f g h = refl
all_same (suc n) f g h = rw (all_same n f g (λ i l. h i (omega arith)), h n (omega arith))

pub some_true : (n : ℕ) (test : ℕ → Bool) (i : ℕ) → i < n → test i ≡ true → some_below n test ≡ true
some_true n test i h e = rw (all_false n (λ j. not (test j)) i h (rw e))

pub some_false : (n : ℕ) (test : ℕ → Bool) → ((i : ℕ) → i < n → test i ≡ false) → some_below n test ≡ false
some_false n test h = rw (all_true n (λ j. not (test j)) (λ i l. rw (h i l)))

pub some_none : (n : ℕ) (test : ℕ → Bool) → some_below n test ≡ false → (i : ℕ) → i < n → test i ≡ false
some_none n test e i h = go (test i) refl
  where
    go : (b : Bool) → test i ≡ b → test i ≡ false
    go true q = absurd (let z = sym (some_true n test i h q) ∙ e in let y : ◌≡◌ {A = ℕ} 0 1 = cc in omega arith)
    go false q = q

-- where some number passes, one can be named
pub some_found : (n : ℕ) (test : ℕ → Bool) → some_below n test ≡ true → (i : ℕ) × (i < n) × (test i ≡ true)
unfolding all_below
some_found zero test e = absurd (let z : ◌≡◌ {A = Bool} false true = e in let y : ◌≡◌ {A = ℕ} 0 1 = cc in omega arith)
some_found (suc n) test e = go (test n) refl (all_below n (λ i. not (test i))) refl (some_found n test)
  where
    go : (b : Bool) → test n ≡ b → (c : Bool) → all_below n (λ i. not (test i)) ≡ c → (not c ≡ true → (i : ℕ) × (i < n) × (test i ≡ true)) → (i : ℕ) × (i < suc n) × (test i ≡ true)
    go true q c r ih = (n, omega arith, q)
    go false q false r ih = let found = ih refl in (found.0, omega (arith, found.1), found.2)
    go false q true r ih = absurd (let z : not (all_below n (λ i. not (test i)) && not (test n)) ≡ true = e in let w : ◌≡◌ {A = Bool} false true = rw (r, q) at z in let y : ◌≡◌ {A = ℕ} 0 1 = cc in omega arith)

-- ---- counts
one : (b : Bool) → cond b 1 0 ≤ 1
one true = omega arith
one false = omega arith

-- a test that holds as often as there are numbers holds at each
pub many_all : (n : ℕ) (test : ℕ → Bool) → n ≤ how_many n test → (i : ℕ) → i < n → test i ≡ true
many_all n test h i l = go (test i) refl (sum_tight n 1 (λ j. cond (test j) 1 0) (λ j m. one (test j)) (omega arith) i l)
  where
    go : (b : Bool) → test i ≡ b → ◌≡◌ {A = ℕ} (cond b 1 0) 1 → test i ≡ true
    go true q e = q
    go false q e = absurd (omega arith)

pub many_most : (n : ℕ) (test : ℕ → Bool) → how_many n test ≤ n
many_most n test = omega (arith, sum_most n 1 (λ j. cond (test j) 1 0) (λ j m. one (test j)))

-- numbers sorted by what f makes of them: those for which that is below m
pub many_sorted : (n m : ℕ) (f : ℕ → ℕ) → sum_below m (λ i. how_many n (λ t. eqb (f t) i)) ≡ how_many n (λ t. ltb (f t) m)
many_sorted n m f =
    sum_turned m n (λ i t. cond (eqb (f t) i) 1 0) ∙ sum_same n _ _ (λ t l. sum_only m (f t) (λ i. 1))

-- ---- lists
pub length_below : (n : ℕ) (f : ℕ → ℕ) → length (list_below n f) ≡ n
unfolding list_below
length_below zero f = refl
length_below (suc n) f = omega (arith, length-append (list_below n f) (f n ∷ []), length_below n f)

pub get_d_below : (n : ℕ) (f : ℕ → ℕ) (i : ℕ) → i < n → get_or (list_below n f) i 0 ≡ f i
unfolding list_below
get_d_below zero f i h = absurd (omega arith)
get_d_below (suc n) f i h = go (next i n h) (get_d_below n f i)
  where
    go : Next i n → (i < n → get_or (list_below n f) i 0 ≡ f i) → get_or (list_below n f ++ (f n ∷ [])) i 0 ≡ f i
    go (earlier l) ih = get_or-append (list_below n f) (f n ∷ []) 0 i (omega (arith, length_below n f)) ∙ ih l
    go (latest e) ih = rw e (get_or_at (list_below n f) (f n) [] 0 n (length_below n f))

-- a list is known by its numbers
pub list_below_lem : (n : ℕ) (f : ℕ → ℕ) (l : List ℕ) → length l ≡ n → ((i : ℕ) → i < n → get_or l i 0 ≡ f i) → l ≡ list_below n f
list_below_lem n f l long h = ext_get_or 0 l (list_below n f) (long ∙ sym (length_below n f)) (λ i u. h i (omega arith) ∙ sym (get_d_below n f i (omega arith)))

-- a list that is written cell by cell: the cells below i hold f, the others what they held
pub record Filled (f : ℕ → ℕ) (begun now : List ℕ) (i : ℕ) : Type 0 where
  pub long : length now ≡ length begun
  pub written : (k : ℕ) → k < i → get_or now k 0 ≡ f k
  pub kept : (k : ℕ) → i ≤ k → get_or now k 0 ≡ get_or begun k 0

pub filled_all : (f : ℕ → ℕ) (l now : List ℕ) (i : ℕ) → Filled f l now i → length l ≤ i → now ≡ list_below (length l) f
filled_all f l now i d h = list_below_lem (length l) f now d.long (λ k q. d.written k (omega arith))

-- its sum is that of its numbers
pub sum_list : (l : List ℕ) → sum_below (length l) (λ i. get_or l i 0) ≡ sum_of l
unfolding sum_of sum_below
sum_list [] = refl
sum_list (x ∷ l) = sum_first (length l) (λ i. get_or (x ∷ l) i 0) ∙ omega (arith, sum_list l)
