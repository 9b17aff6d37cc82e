-- A chain of an iterator's methods over the cells of a path: what its closure is asked at each cell, and what the answer says of the path.
-- By recursion along the path. Assumes nothing.
use Rattle.std.proofs.Common.{ℕ, zero, suc, ◌+◌, ◌-◌, ◌≤◌, ◌<◌, arith, Bool, true, false, ◌≡◌, refl, sym, ap, ◌∙◌, List, [], ◌∷◌, length}
use Rattle.std.specs.Prelude.{Option, MatchOption}
use Rattle.std.specs.Bool.{MatchBool}
use Rattle.std.specs.declared.ops.Range.{Range}
use Rattle.std.specs.declared.iter.Rev.{Rev}
use Rattle.std.specs.Iterator.{Yields, YieldsFirst, AlwaysYields}
use Rattle.std.specs.Iterator.Adapters.{rev_steps}
use Rattle.std.proofs.lemmas.Iterator.{YieldsList}
use Rattle.std.specs.List.{AllWithin, HoldsAt}
use Rattle.weighted_tree.specs.declared.path.Parents.{Parents}
use Rattle.weighted_tree.specs.Store.{Store, sound_at}
use Rattle.weighted_tree.specs.Path.{parents, indexes_below, sound_all}
use Rattle.weighted_tree.proofs.Climb.{climbs, sound_cons, sound_stop, sound_none}

-- ---- on the way up from a cell, each cell is at most that one
pub still_below : (i t : Parents) (xs : List ℕ) → Yields (YieldsFirst (λ (p : Parents). parents p.0)) i xs t → t.0 ≤ i.0
still_below i t [] e = let same : i ≡ t = e in rw same (omega arith)
still_below i t (x ∷ xs) e = omega (arith, (climbs i.0 x e.0.0 e.1).3, still_below e.0 t xs e.2)

-- ---- the cells below k from the last one down
abbrev pub from_back : Range ℕ → Option ℕ → Range ℕ → Type 0
from_back s r t = (t.start ≡ s.start) × MatchOption r ((s.end - s.start ≡ 0) × (t.end ≡ s.end)) (λ x. (0 < s.end - s.start) × (x ≡ t.end) × (s.end ≡ t.end + 1))

down : (k : ℕ) (s : Rev (Range ℕ)) → s.iter.start ≡ 0 → s.iter.end ≡ k → AlwaysYields (rev_steps from_back) (λ x. x) s (indexes_below k)
down zero s a e = λ x j h. omega (arith, h.1.0)
down (suc k) s a e = (λ j h. omega (arith, h.1), λ x j h. (omega (arith, h.1.1, h.1.2), down k j (omega (arith, h.0)) (omega (arith, h.1.2))))

pub all_down : (k : ℕ) (s : Rev (Range ℕ)) → s.iter ≡ record { start = 0; end = k } → YieldsList (rev_steps from_back) (λ x. x) s (indexes_below k)
all_down k s e = record { runs = down k s (ap (λ (r : Range ℕ). r.start) e) (ap (λ (r : Range ℕ). r.end) e) }

-- ---- each cell is sound, or some cell is not
all_yes : (s : Store) (n : ℕ) (path : List ℕ) → AllWithin (λ i. sound_at s n i ≡ true) path 0 (length path) → sound_all s n path ≡ true
all_yes s n [] h = sound_none s n [] refl
all_yes s n (i ∷ path) h = sound_cons s n i path (h 0 0 (omega arith) (omega arith)) ∙ all_yes s n path (λ k d low high. h (suc k) d (omega arith) (omega arith))

some_no : (s : Store) (n : ℕ) (path : List ℕ) (k : ℕ) → k < length path → HoldsAt (λ i. sound_at s n i ≡ false) path k → sound_all s n path ≡ false
some_no s n [] k h e = absurd (omega arith)
some_no s n (i ∷ path) zero h e = sound_stop s n i path (e 0)
some_no s n (i ∷ path) (suc k) h e = go (sound_at s n i) refl (some_no s n path k (omega arith) e)
  where
    go : (b : Bool) → sound_at s n i ≡ b → sound_all s n path ≡ false → sound_all s n (i ∷ path) ≡ false
    go true q later = sound_cons s n i path q ∙ later
    go false q later = sound_stop s n i path q

pub all_sound_is : (s : Store) (n : ℕ) (path : List ℕ) (r : Bool)
    → MatchBool r (AllWithin (λ i. sound_at s n i ≡ true) path 0 (length path)) ((k : ℕ) × (k < length path) × HoldsAt (λ i. sound_at s n i ≡ false) path k)
    → r ≡ sound_all s n path
all_sound_is s n path true h = sym (all_yes s n path h)
all_sound_is s n path false h = sym (some_no s n path h.0 h.1 h.2)
