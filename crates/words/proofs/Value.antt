-- Floats by their exact values: two floats of one format with one sign and one value are the same float; and what a difference and a bit pattern
-- are where nothing is lost. A difference of two fractions is brought over one denominator, and a fraction with few enough digits is not rounded.
-- Assumes nothing.
use Rattle.std.proofs.Common.{◌≡◌, ℕ, zero, suc, ◌+◌, ◌-◌, ◌*◌, ◌/◌, ◌%◌, ◌^◌, ◌<◌, ◌≤◌, Bool, true, false, cond, not, T, eqb, ltb, leb, ℤ, pos, negsuc, sym, refl, ap, ◌∙◌, subst, true≢false, lt_of_lt_of_le, le_of_lt, mul-le-mul_right, mod-eq_of_lt, mul_assoc, mul_comm, lt_of_mul-lt-mul_right, mul-lt-mul_of_pos_right, mul-pos, mul-one, mul_right_comm, not-le_of_lt, le_of_mul-le-mul_right, arith, eqb→eq, ltb→lt, leb→le, nltb→le, pow_pos, pow_mono, pow-add, shl_lt, le-ltb, lt-ltb}
use native.Mathlib.Nat.{mul-sub, eq_of_mul-eq-mul_right}
use lib.Dec.{nleb→lt, not_T}
use lib.Count.{count_trailing_zeros}
use lib.Ieee.{Float, nan, inf, fin, Format, binary64, prec, emax, low, top, hid, up, down, minus, size, odd, round, sum, sub, fits, to_bits, of_bits, of_fields, is_nan, nan_bits}
use lib.Ieee.Digits.{back}
use lib.Ieee.Exact.{HasValue, odd_sign, round_exact}
use lib.Ieee.Fits.{odd-fits, round-fits, down_pos}
use lib.Ieee.Bits.{of_bits-to_bits, nan_bits_above, nan_bits_is, is_false, cond_no}
use lib.Ieee.Nearest.{div_same}
use lib.Ieee.Scale.{round_same}
use Rattle.words.specs.Floats.{Exact, over}

-- ---- one value, one float
-- the bits of a sign and of a magnitude of n of the format's smallest values
abbrev bits_of : Format → Bool → ℕ → ℕ
bits_of f s n = cond s (top f) 0 + (size n - prec f) * hid f + n / 2 ^ (size n - prec f)

bits_by_value : (f : Format) (x : Float) (s : Bool) (a c : ℕ) → 0 < c → HasValue x s a c → to_bits f x ≡ bits_of f s (a * 2 ^ low f / c)
unfolding to_bits
bits_by_value f nan s a c C v = absurd v
bits_by_value f (inf t) s a c C v = absurd v
bits_by_value f (fin t m e) s a c C v =
    ap (λ (n : ℕ). bits_of f t n)
    (div_same (m * up e * 2 ^ low f) (down e) (a * 2 ^ low f) c (down_pos e) C
    (mul_right_comm (m * up e) (2 ^ low f) c ∙ ap (λ (z : ℕ). z * 2 ^ low f) v.1 ∙ mul_right_comm a (down e) (2 ^ low f)))
    ∙ ap (λ (b : Bool). bits_of f b (a * 2 ^ low f / c)) v.0

same_value : (f : Format) (x y : Float) (s : Bool) (a c : ℕ) → 0 < c → T (fits f x) → T (fits f y) → HasValue x s a c → HasValue y s a c → x ≡ y
same_value f x y s a c C p q v w =
    sym (of_bits-to_bits f x p) ∙ ap (of_bits f) (bits_by_value f x s a c C v ∙ sym (bits_by_value f y s a c C w)) ∙ of_bits-to_bits f y q

-- an exact value determines the float
pub exact_same : (x y : Float) (s : Bool) (num den : ℕ) → 0 < den → Exact x s num den → Exact y s num den → x ≡ y
exact_same x y s num den h p q = same_value binary64 x y s num den h p.held q.held p.value q.value

-- from one fraction to another of the same size
pub rescale : (x : Float) (s : Bool) (w l num den : ℕ) → 0 < l → num * l ≡ w * den → HasValue x s w l → HasValue x s num den
rescale nan s w l num den p h v = v
rescale (inf t) s w l num den p h v = v
rescale (fin t m e) s w l num den p h v = (
  v.0,
  eq_of_mul-eq-mul_right l p (m * up e * den) (num * down e)
      (mul_right_comm (m * up e) den l
      ∙ ap (λ (x : ℕ). x * den) v.1
      ∙ mul_right_comm w (down e) den
      ∙ ap (λ (x : ℕ). x * down e) (sym h)
      ∙ mul_right_comm num l (down e)),
)

-- ---- `over`
over_value : (s : Bool) (q l : ℕ) → HasValue (over s q l) s q (2 ^ l)
unfolding over
over_value s q l = subst (λ (z : ℕ). HasValue (odd 64 s q 0 l) s z (2 ^ l)) (mul-one q) (odd_sign 64 s q 0 l)

minus_shift : (a b d : ℕ) → minus (0 + a) b ≡ minus (d + a) (d + b)
minus_shift a b d = go (leb b (0 + a)) (leb (d + b) (d + a)) (leb→le b (0 + a)) (nleb→lt b (0 + a)) (leb→le (d + b) (d + a)) (nleb→lt (d + b) (d + a))
  where
    go : (p q : Bool) → (T p → b ≤ 0 + a) → (T (not p) → 0 + a < b) → (T q → d + b ≤ d + a) → (T (not q) → d + a < d + b)
        → cond p (pos (0 + a - b)) (negsuc (b - suc (0 + a))) ≡ cond q (pos (d + a - (d + b))) (negsuc (d + b - suc (d + a)))
    go true true h i j k = ap pos (omega arith)
    go true false h i j k = absurd (let x = h tt in let y = k tt in omega arith)
    go false true h i j k = absurd (let x = i tt in let y = j tt in omega arith)
    go false false h i j k = ap negsuc (omega arith)

over_shift : (s : Bool) (q l d : ℕ) → over s q l ≡ odd 64 s q d (d + l)
unfolding over odd
over_shift s zero l d = refl
over_shift s (suc q) l d = ap (λ (e : ℤ). fin s (suc q / 2 ^ count_trailing_zeros 64 (suc q)) e) (minus_shift (count_trailing_zeros 64 (suc q)) l d)

small : (q : ℕ) → q < 2 ^ 53 → q < 2 ^ 64
small q h = omega arith

under : (l d : ℕ) → d + l ≡ 1074 → 53 + d ≤ 2098
under l d e = omega arith

fine : (q l d : ℕ) → q < 2 ^ 53 → d + l ≡ 1074 → q * 2 ^ d < 2 ^ (low binary64 + suc (emax binary64))
fine q l d h e = lt_of_lt_of_le (shl_lt 53 d h) (pow_mono (under l d e))

-- with at most 53 digits it is an f64, and has the value that it says
pub over_is : (s : Bool) (q l : ℕ) → q < 2 ^ 53 → l ≤ 1074 → Exact (over s q l) s q (2 ^ l)
over_is s q l h k =
    record {
      held =
          subst (λ (x : Float). T (fits binary64 x)) (sym (over_shift s q l (1074 - l) ∙ ap (odd 64 s q (1074 - l)) (back 1074 l k)))
          (odd-fits binary64 64 s q (1074 - l) (small q h) (le_of_lt h) (fine q l (1074 - l) h (back 1074 l k)));
      value = over_value s q l;
    }

-- and such a fraction is not rounded
round_over : (s : Bool) (q l : ℕ) → q < 2 ^ 53 → l ≤ 1074 → round binary64 s q (2 ^ l) ≡ over s q l
round_over s q l h k =
    same_value binary64 (round binary64 s q (2 ^ l)) (over s q l) s q (2 ^ l) (pow_pos l) (round-fits binary64 s q (2 ^ l)) (over_is s q l h k).held
    (round_exact binary64 s q (2 ^ l) q (1074 - l) (pow_pos l) h (fine q l (1074 - l) h (back 1074 l k))
    (ap (λ (z : ℕ). q * z) (ap (λ (z : ℕ). 2 ^ z) (sym (back 1074 l k)) ∙ pow-add 2 (1074 - l) l) ∙ sym (mul_assoc q (2 ^ (1074 - l)) (2 ^ l))))
    (over_value s q l)

-- ---- a difference of two fractions over one number
apart : (c C A B a b : ℕ) → A * c ≡ a * C → B * c ≡ b * C → (A - B) * c ≡ (a - b) * C
apart c C A B a b p q = mul_comm (A - B) c ∙ mul-sub c A B ∙ diff (mul_comm c A ∙ p ∙ mul_comm a C) (mul_comm c B ∙ q ∙ mul_comm b C) ∙ sym (mul_comm (a - b) C ∙ mul-sub C a b)
  where
    diff : c * A ≡ C * a → c * B ≡ C * b → c * A - c * B ≡ C * a - C * b
    diff x y = cc

cross : (c C A B a b : ℕ) → 0 < c → A * c ≡ a * C → B * c ≡ b * C → b ≤ a → B ≤ A
cross c C A B a b P p q h = le_of_mul-le-mul_right (subst (λ (z : ℕ). z ≤ A * c) (sym q) (subst (λ (z : ℕ). b * C ≤ z) (sym p) (mul-le-mul_right C h))) P

cross_lt : (c C A B a b : ℕ) → 0 < C → A * c ≡ a * C → B * c ≡ b * C → a < b → A < B
cross_lt c C A B a b P p q h = lt_of_mul-lt-mul_right c (subst (λ (z : ℕ). z < B * c) (sym p) (subst (λ (z : ℕ). a * C < z) (sym q) (mul-lt-mul_of_pos_right h P)))

opened : (m : ℕ) (e : ℤ) (n : ℕ) (d : ℤ) → sub binary64 (fin false m e) (fin false n d) ≡ sum binary64 false (m * up e * down d) true (n * up d * down e) (down e * down d)
unfolding sub
opened m e n d = refl

sum_from : (a b c : ℕ) → b ≤ a → sum binary64 false a true b c ≡ round binary64 false (a - b) c
unfolding sum
sum_from a b c h = go (ltb a b) (ltb→lt a b)
  where
    go : (t : Bool) → (T t → a < b) → cond t (round binary64 true (b - a) c) (round binary64 false (a - b) c) ≡ round binary64 false (a - b) c
    go true k = absurd (not-le_of_lt (k tt) h)
    go false k = refl

sum_below : (a b c : ℕ) → a < b → sum binary64 false a true b c ≡ round binary64 true (b - a) c
unfolding sum
sum_below a b c h = go (ltb a b) (nltb→le a b)
  where
    go : (t : Bool) → (T (not t) → b ≤ a) → cond t (round binary64 true (b - a) c) (round binary64 false (a - b) c) ≡ round binary64 true (b - a) c
    go true k = refl
    go false k = absurd (not-le_of_lt h (k tt))

over_left : (x c a de dg : ℕ) → x * c ≡ a * de → x * dg * c ≡ a * (de * dg)
over_left x c a de dg h = mul_right_comm x dg c ∙ ap (λ (z : ℕ). z * dg) h ∙ mul_assoc a de dg

over_right : (y c b dg de : ℕ) → y * c ≡ b * dg → y * de * c ≡ b * (de * dg)
over_right y c b dg de h = mul_right_comm y de c ∙ ap (λ (z : ℕ). z * de) h ∙ mul_assoc b dg de ∙ ap (λ (z : ℕ). b * z) (mul_comm dg de)

-- a / 2^l less b / 2^l, for an a of b or more
pub less_from : (x y : Float) (a b l : ℕ) → HasValue x false a (2 ^ l) → HasValue y false b (2 ^ l) → b ≤ a → a - b < 2 ^ 53 → l ≤ 1074 → sub binary64 x y ≡ over false (a - b) l
less_from nan y a b l v w h i j = absurd v
less_from (inf s) y a b l v w h i j = absurd v
less_from (fin true m e) y a b l v w h i j = absurd (true≢false v.0)
less_from (fin false m e) nan a b l v w h i j = absurd w
less_from (fin false m e) (inf t) a b l v w h i j = absurd w
less_from (fin false m e) (fin true n d) a b l v w h i j = absurd (true≢false w.0)
less_from (fin false m e) (fin false n d) a b l v w h i j =
    let c = 2 ^ l in
    let p = over_left (m * up e) c a (down e) (down d) v.1 in
    let q = over_right (n * up d) c b (down d) (down e) w.1 in
    let D = down e * down d in
    opened m e n d
    ∙ sum_from (m * up e * down d) (n * up d * down e) D (cross c D (m * up e * down d) (n * up d * down e) a b (pow_pos l) p q h)
    ∙ round_same binary64 false (m * up e * down d - n * up d * down e) D (a - b) c (mul-pos (down_pos e) (down_pos d)) (pow_pos l) (apart c D (m * up e * down d) (n * up d * down e) a b p q)
    ∙ round_over false (a - b) l i j

-- and for an a below b
pub less_below : (x y : Float) (a b l : ℕ) → HasValue x false a (2 ^ l) → HasValue y false b (2 ^ l) → a < b → b - a < 2 ^ 53 → l ≤ 1074 → sub binary64 x y ≡ over true (b - a) l
less_below nan y a b l v w h i j = absurd v
less_below (inf s) y a b l v w h i j = absurd v
less_below (fin true m e) y a b l v w h i j = absurd (true≢false v.0)
less_below (fin false m e) nan a b l v w h i j = absurd w
less_below (fin false m e) (inf t) a b l v w h i j = absurd w
less_below (fin false m e) (fin true n d) a b l v w h i j = absurd (true≢false w.0)
less_below (fin false m e) (fin false n d) a b l v w h i j =
    let c = 2 ^ l in
    let p = over_left (m * up e) c a (down e) (down d) v.1 in
    let q = over_right (n * up d) c b (down d) (down e) w.1 in
    let D = down e * down d in
    opened m e n d
    ∙ sum_below (m * up e * down d) (n * up d * down e) D (cross_lt c D (m * up e * down d) (n * up d * down e) a b (mul-pos (down_pos e) (down_pos d)) p q h)
    ∙ round_same binary64 true (n * up d * down e - m * up e * down d) D (b - a) c (mul-pos (down_pos e) (down_pos d)) (pow_pos l) (apart c D (n * up d * down e) (m * up e * down d) b a q p)
    ∙ round_over true (b - a) l i j

-- ---- a bit pattern
fields : (b : ℕ) → b < 2 ^ 63 → of_bits binary64 b ≡ of_fields binary64 false (b / 2 ^ 52) (b % 2 ^ 52)
unfolding of_bits
fields b h =
    ap (λ (s : Bool). of_fields binary64 s (b % 2 ^ 63 / 2 ^ 52) (b % 2 ^ 52)) (is_false (leb (2 ^ 63) b) (not_T (leb (2 ^ 63) b) (λ (u : T (leb (2 ^ 63) b)). not-le_of_lt h (leb→le (2 ^ 63) b u))))
    ∙ ap (λ (z : ℕ). of_fields binary64 false (z / 2 ^ 52) (b % 2 ^ 52)) (mod-eq_of_lt h)

differ : (x : ℕ) → suc x < 2047 → suc x ≡ 2047 → ⊥
differ x h e = omega arith

under_ones : (x t : ℕ) → suc x < 2047 → of_fields binary64 false (suc x) t ≡ odd 53 false (2 ^ 52 + t) x 1074
unfolding of_fields
under_ones x t h =
    cond_no (eqb (suc x) 2047) (cond (eqb t 0) (inf false) nan) (odd 53 false (2 ^ 52 + t) x 1074)
    (not_T (eqb (suc x) 2047) (λ (u : T (eqb (suc x) 2047)). differ x h (eqb→eq (suc x) 2047 u)))

-- a pattern below the infinity's, with the exponent's field x + 1 and the digits k
pub pattern : (b x k : ℕ) → b < 2 ^ 63 → b / 2 ^ 52 ≡ suc x → b % 2 ^ 52 ≡ k → suc x < 2047 → HasValue (of_bits binary64 b) false ((2 ^ 52 + k) * 2 ^ x) (2 ^ 1074)
pattern b x k h i j l =
    subst (λ (y : Float). HasValue y false ((2 ^ 52 + k) * 2 ^ x) (2 ^ 1074))
    (sym (fields b h ∙ ap (λ (z : ℕ). of_fields binary64 false z (b % 2 ^ 52)) i ∙ ap (of_fields binary64 false (suc x)) j ∙ under_ones x k l))
    (odd_sign 53 false (2 ^ 52 + k) x 1074)

-- a pattern up to the infinity's, with the sign taken off, is no NaN's
pub no_nan_bits : (b : ℕ) → b % 2 ^ 63 ≤ 0x7ff0_0000_0000_0000 → T (not (nan_bits binary64 b))
no_nan_bits b h =
    let low : ltb 0x7ff0_0000_0000_0000 (b % 2 ^ 63) ≡ false = le-ltb 0x7ff0_0000_0000_0000 (b % 2 ^ 63) h in
    subst (λ (z : Bool). T (not z)) (sym (nan_bits_above binary64 b ∙ low)) tt

-- ---- a NaN and its bits
pub no_nan : (x : Float) → is_nan x ≡ false → T (not (is_nan x))
no_nan x e = rw e tt

only_nan : (x : Float) → is_nan x ≡ true → x ≡ nan
unfolding is_nan
only_nan nan e = refl
only_nan (inf s) e = absurd (true≢false (sym e))
only_nan (fin s m d) e = absurd (true≢false (sym e))

pub nan_of_bits : (b : ℕ) → 0x7ff0_0000_0000_0000 < b % 2 ^ 63 → of_bits binary64 b ≡ nan
nan_of_bits b h = only_nan (of_bits binary64 b) (sym (nan_bits_is binary64 b) ∙ nan_bits_above binary64 b ∙ lt-ltb 0x7ff0_0000_0000_0000 (b % 2 ^ 63) h)

pub bits_of_nan : (x : Float) → is_nan x ≡ true → 0x7ff8_0000_0000_0000 ≡ to_bits binary64 x
unfolding to_bits
bits_of_nan x e = ap (to_bits binary64) (sym (only_nan x e))

pub the_nan : of_bits binary64 0x7ff8_0000_0000_0000 ≡ nan
unfolding of_bits
the_nan = refl
