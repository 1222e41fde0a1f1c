-- Which patterns of binary32 lie from 0.0 to 1.0. Assumes nothing.
use mathlib.Core.Path.{◌≡◌, refl, sym, ap, ◌∙◌, subst}
use mathlib.Core.Logic.{◌⊎◌, inl, inr, ⊎_elim}
use Prim.Native.Nat.{ℕ, zero, suc, ◌+◌, ◌*◌, ◌/◌, ◌%◌, ◌^◌, ◌≤◌, ◌<◌}
use native.Mathlib.Nat.{le_trans, eq-or-lt_of_le, mul_assoc, mul-le-mul_right, mul-le-mul_left, pow-succ', mul-pos, lt_of_lt_of_le, mod-eq_of_lt}
use native.Mathlib.Omega.{arith}
use mathlib.Core.Bool.{Bool, true, false, cond, not, ◌&&◌, true≢false}
use lib.Dec.{T, leb, eqb, eqb→eq, not_T, lit<, lit≤}
use lib.Pow.{pow_pos, pow_mono}
use lib.Ieee.{Float, nan, inf, fin, binary32, odd, of_fields, of_bits, le, lt, eq, up, down, nan_bits}
use lib.Ieee.Bits.{is_true, is_false, cond_no, nan_bits_above}
use lib.Ieee.Fits.{down_pos}
use lib.Ieee.Exact.{HasValue, odd_sign}
use lib.Ieee.Order.{le_of_values}
use lib.Ieee.Positive.{positive, positive_of_value, values_of_le}
use borrow.Author.Tests.{le-leb, lt-leb, ne_eqb, le-ltb, leb-true, leb-false}
use Rattle.layout.specs.Rules.{unit, holds}
use Rattle.layout.proofs.TestLaws.{and_false}

-- the size of a finite value with the exponent's field x and the digits t, in units of 2 ^ -149
abbrev pub size : ℕ → ℕ → ℕ
size zero t = t * 1
size (suc x) t = (8388608 + t) * 2 ^ x

-- ---- what a pattern stands for
pub fields : (s : Bool) (x t : ℕ) → x < 255 → HasValue (of_fields binary32 s x t) s (size x t) (2 ^ 149)
unfolding of_fields
fields s zero t h = odd_sign 24 s t 0 149
fields s (suc x) t h =
    subst (λ (v : Float). HasValue v s (size (suc x) t) (2 ^ 149))
    (sym (cond_no (eqb (suc x) 255) (cond (eqb t 0) (inf s) nan) (odd 24 s (8388608 + t) x 149) (not_T (eqb (suc x) 255) (λ (u : T (eqb (suc x) 255)). let e : suc x ≡ 255 = eqb→eq (suc x) 255 u in omega arith))))
    (odd_sign 24 s (8388608 + t) x 149)

of_bits_is : (b : ℕ) → of_bits binary32 b ≡ of_fields binary32 (leb 2147483648 b) (b % 2147483648 / 8388608) (b % 8388608)
unfolding of_bits
of_bits_is b = refl

-- ---- the size grows with the pattern
two : (x : ℕ) → 2 ^ suc x ≡ 2 * 2 ^ x
two x = pow-succ' 2 x

size_step : (x t : ℕ) → t < 8388608 → size x t ≤ size (suc x) 0
size_step zero t h = omega arith
size_step (suc x) t h = rw two (omega (arith, mul-le-mul_right (2 ^ x) (more t h), mul_assoc 8388608 2 (2 ^ x)))
  where
    more : (n : ℕ) → n < 8388608 → 8388608 + n ≤ 8388608 * 2
    more n p = omega arith

cut : (x : ℕ) → x ≤ 126 → 8388608 * 2 ^ x ≤ 2 ^ 149
cut x h = mul-le-mul_left 8388608 (pow_mono h)

size-le : (x t : ℕ) → t < 8388608 → x * 8388608 + t ≤ 1065353216 → size x t ≤ 2 ^ 149
size-le x t h k = ⊎_elim (λ e. at127 x t e k) (λ l. le_trans (size_step x t h) (cut x (below x l))) (eq-or-lt_of_le (least x t k))
  where
    least : (x t : ℕ) → x * 8388608 + t ≤ 1065353216 → x ≤ 127
    least x t k = omega arith

    below : (x : ℕ) → x < 127 → x ≤ 126
    below x l = omega arith

    at127 : (x t : ℕ) → x ≡ 127 → x * 8388608 + t ≤ 1065353216 → size x t ≤ 2 ^ 149
    at127 x t e k = let z : t ≡ 0 = omega arith in rw (e, z) (lit≤ tt)

size_gt : (x t : ℕ) → 1065353216 < x * 8388608 + t → t < 8388608 → 2 ^ 149 < size x t
size_gt zero t k h = absurd (omega arith)
size_gt (suc x) t k h = ⊎_elim (λ e. at127 x t (sym e) k) (λ l. lt_of_lt_of_le (lit< tt) (le_trans (mul-le-mul_left 8388608 (pow_mono l)) (mul-le-mul_right (2 ^ x) (more 8388608 t)))) (eq-or-lt_of_le (least x t k h))
  where
    least : (x t : ℕ) → 1065353216 < suc x * 8388608 + t → t < 8388608 → 126 ≤ x
    least x t k h = omega arith

    more : (n t : ℕ) → n ≤ n + t
    more n t = omega arith

    one : (x t : ℕ) → x ≡ 126 → 1065353216 < suc x * 8388608 + t → 8388609 ≤ 8388608 + t
    one x t e k = omega arith

    at127 : (x t : ℕ) → x ≡ 126 → 1065353216 < suc x * 8388608 + t → 2 ^ 149 < (8388608 + t) * 2 ^ x
    at127 x t e k = rw e (lt_of_lt_of_le (lit< tt) (mul-le-mul_right (2 ^ 126) (one x t e k)))

size-pos : (x t : ℕ) → 0 < x * 8388608 + t → 0 < size x t
size-pos zero t h = omega arith
size-pos (suc x) t h = mul-pos (omega arith) (pow_pos x)

-- ---- the two ends
abbrev Z : Float
Z = of_bits binary32 0

abbrev O : Float
O = of_bits binary32 1065353216

Z-is : HasValue Z false 0 1
unfolding of_bits
Z-is = (refl, refl)

O-is : HasValue O false 1 1
unfolding of_bits
O-is = (refl, refl)

O-positive : T (positive O)
unfolding of_bits
O-positive = tt

-- of a finite value a / c; omega reads no numeral of more than 38 digits, so c is a variable
module _ (v : Float) (a c : ℕ) (C : 0 < c) where
  above_zero : HasValue v false a c → le Z v ≡ true
  above_zero h = is_true (le Z v) (le_of_values Z v 0 1 a c (omega arith) C Z-is h (omega arith))

  up_to-one : HasValue v false a c → a ≤ c → le v O ≡ true
  up_to-one h k = is_true (le v O) (le_of_values v O a c 1 1 C (omega arith) h O-is (omega arith))

  past_one : HasValue v false a c → c < a → le v O ≡ false
  past_one h k =
      is_false (le v O)
      (not_T (le v O) λ t. let z : a * 1 ≤ 1 * c = values_of_le v O a c 1 1 (positive_of_value v a c h (omega arith)) O-positive h O-is t in omega arith)

below-zero : (v : Float) (a c : ℕ) → HasValue v true a c → 0 < a → le Z v ≡ false
unfolding of_bits le lt eq
below-zero nan a c h k = absurd h
below-zero (inf s) a c h k = absurd h
below-zero (fin false m e) a c h k = absurd (true≢false (sym h.0))
below-zero (fin true m e) a c h k =
    rw (ne_eqb (0 * down e) (m * up e * 1) λ z. let y : m * up e ≡ 0 = omega arith in omega (arith, mul-pos k (down_pos e), h.1, ap (λ (q : ℕ). q * c) y))

inf-past : le (inf false) O ≡ false
unfolding of_bits le lt eq
inf-past = refl

inf-below : le Z (inf true) ≡ false
unfolding of_bits le lt eq
inf-below = refl

-- ---- patterns
plain : (b : ℕ) → b < 2147483648 → b < 2139095040 → HasValue (of_bits binary32 b) false (size (b / 8388608) (b % 8388608)) (2 ^ 149)
plain b h k =
    rw (of_bits_is b, lt-leb 2147483648 b h, mod-eq_of_lt h) (fields false (b / 8388608) (b % 8388608) (omega arith))

minus : (b : ℕ) → 2147483648 ≤ b → b < 4286578688 → HasValue (of_bits binary32 b) true (size (b % 2147483648 / 8388608) (b % 8388608)) (2 ^ 149)
minus b h k =
    rw (of_bits_is b, le-leb 2147483648 b h) (fields true (b % 2147483648 / 8388608) (b % 8388608) (omega arith))

minus-inf : (b : ℕ) → b ≡ 4286578688 → of_bits binary32 b ≡ inf true
unfolding of_bits
minus-inf b e = rw e

plus-inf : (b : ℕ) → b ≡ 2139095040 → of_bits binary32 b ≡ inf false
unfolding of_bits
plus-inf b e = rw e

pub no_nan : (b : ℕ) → b % 2147483648 ≤ 2139095040 → T (not (nan_bits binary32 b))
no_nan b h = rw (nan_bits_above binary32 b, le-ltb 2139095040 (b % 2147483648) h) tt

-- ---- the law
pub low : (b : ℕ) → b ≤ 1065353216 → (le Z (of_bits binary32 b) ≡ true) × (le (of_bits binary32 b) O ≡ true)
low b h =
    let v : HasValue (of_bits binary32 b) false (size (b / 8388608) (b % 8388608)) (2 ^ 149) = plain b (omega arith) (omega arith) in (
      above_zero (of_bits binary32 b) (size (b / 8388608) (b % 8388608)) (2 ^ 149) (pow_pos 149) v,
      up_to-one (of_bits binary32 b) (size (b / 8388608) (b % 8388608)) (2 ^ 149) (pow_pos 149) v (size-le (b / 8388608) (b % 8388608) (omega arith) (omega arith)),
    )

high : (b : ℕ) → 1065353216 < b → b ≤ 2139095040 → le (of_bits binary32 b) O ≡ false
high b h k =
    ⊎_elim (λ e. rw (plus-inf b e) inf-past)
    (λ l. past_one (of_bits binary32 b) (size (b / 8388608) (b % 8388608)) (2 ^ 149) (pow_pos 149) (plain b (omega arith) l) (size_gt (b / 8388608) (b % 8388608) (omega arith) (omega arith)))
    (eq-or-lt_of_le k)

neg-zero : (b : ℕ) → b ≡ 2147483648 → (le Z (of_bits binary32 b) && le (of_bits binary32 b) O) ≡ true
unfolding of_bits le lt eq
neg-zero b e = rw e

neg : (b : ℕ) → 2147483648 < b → b ≤ 4286578688 → le Z (of_bits binary32 b) ≡ false
neg b h k =
    ⊎_elim (λ e. rw (minus-inf b e) inf-below)
    (λ l. below-zero (of_bits binary32 b) (size (b % 2147483648 / 8388608) (b % 8388608)) (2 ^ 149) (minus b (omega arith) l) (size-pos (b % 2147483648 / 8388608) (b % 8388608) (omega arith)))
    (eq-or-lt_of_le k)

split : (a b : ℕ) → (a ≤ b) ⊎ (b < a)
split a b = go (leb a b) refl
  where
    go : (x : Bool) → leb a b ≡ x → (a ≤ b) ⊎ (b < a)
    go true e = inl (leb-true a b e)
    go false e = inr (leb-false a b e)

-- the value's tests are the pattern's
pub law : (b : ℕ) → b < 4294967296 → b % 2147483648 ≤ 2139095040 → (le Z (of_bits binary32 b) && le (of_bits binary32 b) O) ≡ holds unit b
law b w n =
    ⊎_elim
    (λ h. rw ((low b h).0, (low b h).1, le-leb b 1065353216 h))
    (λ h.
    ⊎_elim
    (λ (k : b ≤ 2147483648). ⊎_elim (λ (e : b ≡ 2147483648). neg-zero b e ∙ sym (rw e)) (λ (l : b < 2147483648). rw (high b h (omega arith), lt-leb b 1065353216 h, ne_eqb b 2147483648 (omega arith)) (and_false (le Z (of_bits binary32 b)))) (eq-or-lt_of_le k))
    (λ (k : 2147483648 < b). rw (neg b k (omega arith), lt-leb b 1065353216 h, ne_eqb b 2147483648 (omega arith)))
    (split b 2147483648))
    (split b 1065353216)

-- a NaN's pattern is no colour's
pub law_nan : (b : ℕ) → 2139095040 < b % 2147483648 → false ≡ holds unit b
law_nan b h = rw (lt-leb b 1065353216 (omega arith), ne_eqb b 2147483648 (omega arith))
