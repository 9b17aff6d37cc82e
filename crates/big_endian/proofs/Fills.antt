-- The loop that fills words with numbers, a step at a time: what is done, and what the rest of the bytes makes of the rest of the words,
-- are together what all of the bytes make of all of the words. Assumes nothing.
use Prim.Native.Nat.{ℕ, suc, ◌+◌, ◌≤◌, ◌<◌}
use native.Mathlib.Omega.{arith}
use native.Mathlib.Numerals.{add-one}
use mathlib.Core.Path.{◌≡◌, refl, sym, ap, ◌∙◌}
use mathlib.Core.List.{List, [], ◌∷◌, ◌++◌, append-nil}
use borrow.Author.Tests.{lt-ltb, le-ltb}
use lib.ListN.{length, set, take, drop, take-append-drop, drop_of_length-le}
use lib.Seq.{drop-cons, drop-set-lt, take-suc-set, take_all, append_snoc}
use Rattle.std.specs.List.{IsSplitAt}
use Rattle.big_endian.specs.Bytes.{from_bytes, spelled}

-- the words before i are written, and the rest of the bytes is not read
abbrev pub Filled : ℕ → List ℕ → List ℕ → List ℕ → List ℕ → ℕ → Type 0
Filled width words₀ bytes words rest i = spelled width words₀ bytes ≡ take i words ++ spelled width (drop i words) rest

-- one number more: the rest is split after its bytes
pub fill_step : (width : ℕ) (words₀ bytes words rest : List ℕ) (i : ℕ) (first others : List ℕ) (v : ℕ)
    → Filled width words₀ bytes words rest i → i < length words → IsSplitAt rest width first others
    → v ≡ from_bytes (take 8 first) → Filled width words₀ bytes (set words i v) others (i + 1)
unfolding spelled
fill_step width words₀ bytes words rest i first others v e h split q =
    let next : v ≡ from_bytes (take 8 (take width rest)) = cc (split.1) in
    e
    ∙ rw (split.2, add-one, drop-cons words i 0 h, le-ltb (length rest) width split.0, ← next, take-suc-set words i v h, drop-set-lt (suc i) words i v (omega arith))
    (sym (append_snoc (take i words) v (spelled width (drop (suc i) words) (drop width rest))))

-- too few bytes for another number
pub fill_short : (width : ℕ) (words₀ bytes words rest : List ℕ) (i : ℕ) → Filled width words₀ bytes words rest i → length rest < width → words ≡ spelled width words₀ bytes
unfolding spelled
fill_short width words₀ bytes words rest i e h =
    sym (e ∙ ap (λ (r : List ℕ). take i words ++ r) (kept (drop i words)) ∙ take-append-drop i words)
  where
    kept : (ws : List ℕ) → spelled width ws rest ≡ ws
    kept [] = refl
    kept (word ∷ ws) = rw (lt-ltb (length rest) width h) refl

-- no word is left
pub fill_end : (width : ℕ) (words₀ bytes words rest : List ℕ) (i : ℕ) → Filled width words₀ bytes words rest i → length words ≤ i → words ≡ spelled width words₀ bytes
unfolding spelled
fill_end width words₀ bytes words rest i e h =
    sym (e ∙ rw (drop_of_length-le words {i = i} h, take_all i words h) (append-nil words))
