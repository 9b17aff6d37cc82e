-- A byte more: the number so far and the byte spell the longer number, which k bytes keep below 256^k. Assumes nothing.
use Prim.Native.Nat.{ℕ, ◌+◌, ◌*◌, ◌≤◌, ◌<◌, ◌^◌}
use native.Mathlib.Omega.{arith}
use native.Mathlib.Numerals.{add-one}
use mathlib.Core.Path.{◌≡◌, refl}
use mathlib.Core.List.{List, [], ◌∷◌, ◌++◌}
use lib.ListN.{length, get_or, take}
use lib.Pow.{pow-add, pow_mono}
use lib.Seq.{take-suc}
use Rattle.std.proofs.Common.{Fits, w8}
use Rattle.std.proofs.lemmas.List.{get_or-take, length-take}
use Rattle.big_endian.specs.Bytes.{onward, from_bytes}

onward_snoc : (n : ℕ) (bs : List ℕ) (b : ℕ) → onward n (bs ++ (b ∷ [])) ≡ onward n bs * 256 + b
unfolding onward
onward_snoc n [] b = refl
onward_snoc n (x ∷ bs) b = onward_snoc (n * 256 + x) bs b

pub spell_none : from_bytes [] ≡ 0
unfolding onward
spell_none = refl

pub spell_more : (bs : List ℕ) (i : ℕ) → i < length bs → from_bytes (take (i + 1) bs) ≡ from_bytes (take i bs) * 256 + get_or bs i 0
spell_more bs i h = rw (add-one, take-suc bs i 0 h) (onward_snoc 0 (take i bs) (get_or bs i 0))

-- a number of i bytes, and the next of the first k, of which there are eight at most
pub byte_more : (bytes : List ℕ) (k i n : ℕ) → k ≤ 8 → ((j : ℕ) → Fits w8 (get_or bytes j 0)) → i < length (take k bytes) → n < 2 ^ (8 * i)
    → (n * 256 + get_or (take k bytes) i 0 < 2 ^ (8 * (i + 1))) × (n * 256 + get_or (take k bytes) i 0 < 2 ^ 64)
byte_more bytes k i n few small h below =
    let within : i < k = omega (arith, length-take k bytes) in
    let byte : get_or (take k bytes) i 0 < 256 = omega (arith, get_or-take k bytes i 0 within, small i) in
    let more : 8 * (i + 1) ≡ 8 * i + 8 = omega arith in
    let next : 2 ^ (8 * i + 8) ≡ 2 ^ (8 * i) * 256 = pow-add 2 (8 * i) 8 in
    let most : 2 ^ (8 * i) ≤ 2 ^ 56 = pow_mono {i = 8 * i} {j = 56} (omega arith) in
    (rw (more, next) (omega arith), omega arith)
