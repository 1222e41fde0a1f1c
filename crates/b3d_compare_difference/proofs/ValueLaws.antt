-- A law for each way through `numbers`, `entry_numbers`, `span_of` and `same_bytes`.
use mathlib.Core.Path.{◌≡◌, refl, ap, sym, ◌∙◌}
use Prim.Native.Nat.{ℕ, suc, ◌+◌, ◌-◌, ◌%◌, ◌<◌, ◌≤◌}
use native.Mathlib.Omega.{arith}
use native.Mathlib.Nat.{add-zero, sub-zero}
use mathlib.Core.Bool.{Bool, true, false, not, ◌&&◌}
use mathlib.Core.List.{List, [], ◌∷◌}
use lib.ListN.{length, take, drop, get_or, drop_of_length-le, length-drop}
use lib.Seq.{take_all, drop-cons, take-nil, length-take-le}
use lib.Dec.{T, eqb}
use lib.Ieee.{Float, binary32, of_bits, to_bits, nan_bits, is_nan}
use lib.Ieee.Bits.{is_true, is_false, nan_bits_above}
use borrow.Author.Tests.{le-ltb, lt-ltb, ne_eqb}
use mir.Facts.{yes_eqb}
use Rattle.wire.specs.Test.{if}
use Rattle.layout.proofs.ResultLaws.{by_test}
use Rattle.b3d_spec.specs.Rebuild.{same}
use Rattle.b3d_compare_spec.specs.declared.Span.{Span}
use Rattle.b3d_compare_spec.specs.declared.Difference.{Difference}
use Rattle.b3d_compare_spec.specs.declared.Difference.TheVariants.{Wholes, Floats, Texts}
use Rattle.b3d_compare_spec.specs.Differences.{span_text, numbers_of}
use Rattle.b3d_compare_spec.proofs.CellLaws.{same-is}
use Rattle.b3d_compare_difference.specs.Spans.{SpanWithin, SpanIs, entry_numbers, Clean}

-- ---- numbers

abbrev pub Far : ℕ → Type 0
Far n = 2139095040 < n % 2147483648

abbrev pub Near : ℕ → Type 0
Near n = n % 2147483648 ≤ 2139095040

is-nan : (n : ℕ) → Far n → nan_bits binary32 n ≡ true
is-nan n h = nan_bits_above binary32 n ∙ rw (lt-ltb 2139095040 (n % 2147483648) h)

no_nan : (n : ℕ) → Near n → nan_bits binary32 n ≡ false
no_nan n h = nan_bits_above binary32 n ∙ rw (le-ltb 2139095040 (n % 2147483648) h)

pub clean_bits : (n : ℕ) → Near n → T (not (nan_bits binary32 n))
clean_bits n h = rw (no_nan n h) tt

is-not : (f : Bool) → not f ≡ true → f ≡ false
is-not true h = sym h
is-not false h = refl

is_so : (f : Bool) → not f ≡ false → f ≡ true
is_so true h = refl
is_so false h = sym h

module _ (f g : Bool) (e : f ≡ g) (x y : ℕ) where
  pub wholes-not : not f ≡ true → Wholes x y ≡ numbers_of g x y
  unfolding numbers_of if
  wholes-not h = rw (← e, is-not f h)

  module _ (h : not f ≡ false) where
    pub wholes-first : Far x → Wholes x y ≡ numbers_of g x y
    unfolding numbers_of if
    wholes-first i = rw (← e, is_so f h, is-nan x i)

    pub wholes-second : Near x → Far y → Wholes x y ≡ numbers_of g x y
    unfolding numbers_of if
    wholes-second i j = rw (← e, is_so f h, no_nan x i, is-nan y j)

    pub floats_are : Near x → Near y → Floats (of_bits binary32 x) (of_bits binary32 y) ≡ numbers_of g x y
    unfolding numbers_of if
    floats_are i j = rw (← e, is_so f h, no_nan x i, no_nan y j)

pub ruleset number_laws = (clean_bits, wholes-not, wholes-first, wholes-second, floats_are)

-- ---- entries

module _ (k r w : ℕ) (d : Difference) where
  pub wholes-entry : (x y : ℕ) → d ≡ Wholes x y → k ∷ r ∷ w ∷ x ∷ y ∷ [] ≡ entry_numbers k r w d
  unfolding entry_numbers
  wholes-entry x y e = rw e

  pub floats-entry : (x y : Float) → d ≡ Floats x y → k ∷ r ∷ w ∷ to_bits binary32 x ∷ to_bits binary32 y ∷ [] ≡ entry_numbers k r w d
  unfolding entry_numbers
  floats-entry x y e = rw e

  pub texts-entry : (x y : Span) → d ≡ Texts x y → k ∷ r ∷ w ∷ x.length ∷ y.length ∷ [] ≡ entry_numbers k r w d
  unfolding entry_numbers
  texts-entry x y e = rw e

module _ (d : Difference) (h : Clean d) (x y : Float) (e : d ≡ Floats x y) where
  pub first-clean : T (not (is_nan x))
  first-clean = (rw e at h).0

  pub second-clean : T (not (is_nan y))
  second-clean = (rw e at h).1

pub ruleset entry_laws = (wholes-entry, floats-entry, texts-entry, first-clean, second-clean)

-- ---- spans

module _ (s : List ℕ) (place size p : ℕ) (e : p ≡ place) where
  pub span_far : length s ≤ p → SpanIs s place size (record { place = 0; length = 0 })
  unfolding span_text
  span_far h = record { lies = record { within = omega arith }; is = sym (ap (take size) (drop_of_length-le s (rw e at h)) ∙ take-nil size) }

  module _ (h : p < length s) (n : ℕ) (f : n ≡ size) where
    pub span-cut : length s - p < n → SpanIs s place size (record { place = place; length = length s - p })
    unfolding span_text
    span-cut i =
        record {
          lies = record { within = omega (arith, e) };
          is = take_all (length s - p) (drop place s) (omega (arith, e, length-drop place s)) ∙ sym (take_all size (drop place s) (omega (arith, e, f, length-drop place s)));
        }

    pub span-all : n ≤ length s - p → SpanIs s place size (record { place = place; length = size })
    unfolding span_text
    span-all i = record { lies = record { within = omega (arith, e, f) }; is = refl }

pub ruleset span_laws = (span_far, span-cut, span-all)

-- ---- bytes

abbrev pub part : ℕ → ℕ → List ℕ → List ℕ
part n p s = take n (drop p s)

true-eqb : (m n : ℕ) → m ≡ n → eqb m n ≡ true
true-eqb m n e = is_true (eqb m n) (yes_eqb {a = m} e)

-- n - i bytes are left
pub record BytesLeft (a b : List ℕ) (p q n i : ℕ) : Type 0 where
  pub is : same (part (n - i) (p + i) a) (part (n - i) (q + i) b) ≡ same (part n p a) (part n q b)
  pub few : i ≤ n

part_step : (s : List ℕ) (p n i : ℕ) → p + n ≤ length s → i < n → part (n - i) (p + i) s ≡ get_or s (p + i) 0 ∷ part (n - (i + 1)) (p + (i + 1)) s
part_step s p n i h l =
    let e : n - i ≡ suc (n - (i + 1)) = omega arith in
    let f : suc (p + i) ≡ p + (i + 1) = omega arith in
    rw (e, drop-cons s (p + i) 0 (omega arith), f)

module _ (a b : List ℕ) (p q n : ℕ) (ha : p + n ≤ length a) (hb : q + n ≤ length b) where
  pub bytes-start : BytesLeft a b p q n 0
  bytes-start = record { is = rw (sub-zero n, add-zero p, add-zero q); few = omega arith }

  module _ (i : ℕ) (g : BytesLeft a b p q n i) where
    pub bytes-done : n ≤ i → true ≡ same (part n p a) (part n q b)
    unfolding same
    bytes-done h = let z : n - i ≡ 0 = omega arith in rw z at g.is

    module _ (l : i < n) where
      here : same (part n p a) (part n q b) ≡ eqb (get_or a (p + i) 0) (get_or b (q + i) 0) && same (part (n - (i + 1)) (p + (i + 1)) a) (part (n - (i + 1)) (q + (i + 1)) b)
      unfolding same
      here = sym g.is ∙ rw (part_step a p n i ha l, part_step b q n i hb l)

      pub bytes-differ : (get_or a (p + i) 0 ≡ get_or b (q + i) 0 → ⊥) → false ≡ same (part n p a) (part n q b)
      bytes-differ d = sym (here ∙ rw (ne_eqb (get_or a (p + i) 0) (get_or b (q + i) 0) d))

      pub bytes_next : get_or a (p + i) 0 ≡ get_or b (q + i) 0 → BytesLeft a b p q n (i + 1)
      bytes_next e = record { is = sym (here ∙ rw (true-eqb (get_or a (p + i) 0) (get_or b (q + i) 0) e)); few = omega arith }

pub ruleset bytes_laws = (bytes-start, bytes-done, bytes-differ, bytes_next)

-- ---- texts

pub text_long : (s : List ℕ) (x : Span) → SpanWithin s x → length (span_text s x) ≡ x.length
unfolding span_text
text_long s x h = length-take-le x.length (drop x.place s) (omega (arith, h.within, length-drop x.place s))

not_same : (l m : List ℕ) → (length l ≡ length m → ⊥) → false ≡ same l m
not_same l m h = by_test (same l m) (λ t. absurd (h (ap length (same-is l m t)))) (λ t. sym (is_false (same l m) t))

module _ (a b : List ℕ) (x y : Span) (ha : SpanWithin a x) (hb : SpanWithin b y) where
  pub texts-differ : (x.length ≡ y.length → ⊥) → false ≡ same (span_text a x) (span_text b y)
  texts-differ h = not_same (span_text a x) (span_text b y) (λ e. h (sym (text_long a x ha) ∙ e ∙ text_long b y hb))

  module _ (e : x.length ≡ y.length) (p q n : ℕ) (ep : p ≡ x.place) (eq : q ≡ y.place) (en : n ≡ x.length) where
    pub first_room : p + n ≤ length a
    first_room = omega (arith, ha.within)

    pub second_room : q + n ≤ length b
    second_room = omega (arith, hb.within)

    pub texts-same : (r : Bool) → r ≡ same (part n p a) (part n q b) → r ≡ same (span_text a x) (span_text b y)
    unfolding span_text
    texts-same r h = h ∙ rw (ep, eq, en, ← e)

pub ruleset text_laws = (texts-differ, first_room, second_room, texts-same)
