-- A law for each way through the functions.
use mathlib.Core.Path.{◌≡◌, refl, ap, sym, ◌∙◌}
use Prim.Native.Nat.{ℕ, ◌+◌, ◌<◌, ◌≤◌}
use native.Mathlib.Numerals.{add-one}
use native.Mathlib.Omega.{arith}
use mathlib.Core.Bool.{Bool}
use mathlib.Core.List.{List, [], ◌∷◌, ◌++◌, append-nil}
use lib.ListN.{length, take, drop, get_or, drop_of_length-le}
use lib.Seq.{drop-cons}
use lib.Ieee.{Float}
use Rattle.shared_output.proofs.PartLaws.{Both}
use Rattle.shared_seven_bit_groups.specs.Groups.{groups, write_numbers}
use Rattle.shared_seven_bit_groups.proofs.GroupLaws.{groups-append, numbers-append}
use Rattle.shared_put_or_count.specs.Emits.{RoomFrom, Emits}
use Rattle.shared_put_or_count.proofs.PutLaws.{emits_none, fits-first, fits-second, emits_both, fits-same, emits_same, Left, left-none, left-done, left-fits, left_next}
use Rattle.b3d_compare_spec.specs.declared.Span.{Span}
use Rattle.b3d_compare_spec.specs.declared.Difference.{Difference}
use Rattle.b3d_compare_spec.specs.declared.Difference.TheVariants.{Wholes, Floats, Texts}
use Rattle.b3d_compare_spec.specs.Changes.{Change}
use Rattle.b3d_compare_spec.specs.List.{lead_bytes, text_bytes, change_bytes, list_bytes}
use Rattle.b3d_compare_spec.specs.Differences.{span_text, first_of, second_of}
use Rattle.b3d_compare_difference.specs.Spans.{SpanWithin, entry_numbers}
use Rattle.b3d_compare_difference.proofs.ValueLaws.{text_long}
use Rattle.b3d_compare_entries.specs.Entries.{Lies, change_of, texts_of}

-- ---- `put_numbers`

-- those from i on are left
pub record NumbersLeft (ns : List ℕ) (wet : Bool) (xs : List ℕ) (at : ℕ) (ys : List ℕ) (next i : ℕ) : Type 0 where
  pub five : length ns ≡ 5
  pub left : Left wet (write_numbers ns []) xs at ys next (write_numbers (drop i ns) [])

module _ (ns : List ℕ) (wet : Bool) (xs : List ℕ) (at : ℕ) where
  pub numbers_start : length ns ≡ 5 → RoomFrom wet (write_numbers ns []) at xs → NumbersLeft ns wet xs at xs at 0
  numbers_start l f = record { five = l; left = left-none wet (write_numbers ns []) xs at f }

  module _ (ys : List ℕ) (next i : ℕ) (g : NumbersLeft ns wet xs at ys next i) where
    module _ (h : i < 5) where
      two : Both (write_numbers (drop i ns) []) (groups (get_or ns i 0) []) (write_numbers (drop (i + 1) ns) [])
      unfolding write_numbers
      two =
          let here : drop i ns ≡ get_or ns i 0 ∷ drop (i + 1) ns = rw add-one (drop-cons ns i 0 (omega (arith, g.five))) in
          record { is = ap (λ (l : List ℕ). write_numbers l []) here ∙ groups-append (get_or ns i 0) (write_numbers (drop (i + 1) ns) []) }

      pub number_fits : RoomFrom wet (groups (get_or ns i 0) []) next ys
      number_fits = left-fits wet (write_numbers ns []) xs at ys next (write_numbers (drop i ns) []) g.left (groups (get_or ns i 0) []) (write_numbers (drop (i + 1) ns) []) two

      pub number_next : (zs : List ℕ) (p : ℕ) → Emits wet (groups (get_or ns i 0) []) ys next zs p → NumbersLeft ns wet xs at zs p (i + 1)
      number_next zs p e =
          record {
            five = g.five;
            left = left_next wet (write_numbers ns []) xs at ys next (write_numbers (drop i ns) []) g.left (groups (get_or ns i 0) []) (write_numbers (drop (i + 1) ns) []) two zs p e;
          }

    pub numbers_done : 5 ≤ i → Emits wet (write_numbers ns []) xs at ys next
    unfolding write_numbers
    numbers_done h = left-done wet (write_numbers ns []) xs at ys next (write_numbers (drop i ns) []) g.left (rw (drop_of_length-le ns {i = i} (omega (arith, g.five))))

pub ruleset numbers_laws = (numbers_start, number_fits, number_next, numbers_done)

-- ---- `put_span`

module _ (s : List ℕ) (x : Span) (l : SpanWithin s x) (p n : ℕ) (ep : p ≡ x.place) (en : n ≡ x.length) (wet : Bool) (xs : List ℕ) (at : ℕ) where
  span_is : span_text s x ≡ take n (drop p s)
  unfolding span_text
  span_is = rw (ep, en)

  pub span_inside : p + n ≤ length s
  span_inside = omega (arith, l.within)

  pub span_fits : RoomFrom wet (span_text s x) at xs → RoomFrom wet (take n (drop p s)) at xs
  span_fits f = fits-same span_is wet xs at f

  pub span_put : (ys : List ℕ) (m : ℕ) → Emits wet (take n (drop p s)) xs at ys m → Emits wet (span_text s x) xs at ys m
  span_put ys m e = emits_same span_is wet xs at ys m e

pub ruleset span_laws = (span_inside, span_fits, span_put)

-- ---- `put_texts`

module _ (a b : List ℕ) (d : Difference) (wet : Bool) (xs : List ℕ) (at : ℕ) where
  pub wholes_put : (x y : ℕ) → d ≡ Wholes x y → Emits wet (texts_of a b d) xs at xs at
  unfolding texts_of
  wholes_put x y e = emits_none wet (texts_of a b d) xs at (rw e)

  pub floats_put : (x y : Float) → d ≡ Floats x y → Emits wet (texts_of a b d) xs at xs at
  unfolding texts_of
  floats_put x y e = emits_none wet (texts_of a b d) xs at (rw e)

  module _ (l : Lies a b d) (f : RoomFrom wet (texts_of a b d) at xs) (x y : Span) (e : d ≡ Texts x y) where
    texts_are : Both (texts_of a b d) (span_text a x) (span_text b y)
    unfolding texts_of
    texts_are = record { is = rw e }

    pub first_lies : SpanWithin a x
    first_lies = (rw e at l).0

    pub second_lies : SpanWithin b y
    second_lies = (rw e at l).1

    pub first_fits : RoomFrom wet (span_text a x) at xs
    first_fits = fits-first texts_are wet xs at f

    module _ (ys : List ℕ) (p : ℕ) (g : Emits wet (span_text a x) xs at ys p) where
      pub second_fits : RoomFrom wet (span_text b y) p ys
      second_fits = fits-second texts_are wet xs at ys p g f

      pub texts_put : (zs : List ℕ) (q : ℕ) → Emits wet (span_text b y) ys p zs q → Emits wet (texts_of a b d) xs at zs q
      texts_put zs q m = emits_both texts_are wet xs at ys p g zs q m

pub ruleset texts_laws = (wholes_put, floats_put, first_lies, second_lies, first_fits, second_fits, texts_put)

-- ---- `put_entry`

module _ (a b : List ℕ) (k r w : ℕ) where
  entry-bytes : (d : Difference) → Lies a b d → change_bytes (change_of a b k r w d) [] ≡ write_numbers (entry_numbers k r w d) [] ++ texts_of a b d
  unfolding change_bytes change_of first_of second_of lead_bytes text_bytes write_numbers entry_numbers texts_of
  entry-bytes (Wholes x y) l = sym (append-nil _)
  entry-bytes (Floats x y) l = sym (append-nil _)
  entry-bytes (Texts x y) l =
      rw (text_long a x l.0, text_long b y l.1, append-nil (span_text b y))
      (numbers-append (k ∷ r ∷ w ∷ x.length ∷ y.length ∷ []) (span_text a x ++ span_text b y))

  module _ (d : Difference) (l : Lies a b d) (wet : Bool) (xs : List ℕ) (at : ℕ) (f : RoomFrom wet (change_bytes (change_of a b k r w d) []) at xs) (ns : List ℕ) (e : ns ≡ entry_numbers k r w d) where
    entry_is : Both (change_bytes (change_of a b k r w d) []) (write_numbers ns []) (texts_of a b d)
    entry_is = record { is = entry-bytes d l ∙ ap (λ (m : List ℕ). write_numbers m [] ++ texts_of a b d) (sym e) }

    pub numbers_fit : RoomFrom wet (write_numbers ns []) at xs
    numbers_fit = fits-first entry_is wet xs at f

    module _ (ys : List ℕ) (p : ℕ) (g : Emits wet (write_numbers ns []) xs at ys p) where
      pub texts_fit : RoomFrom wet (texts_of a b d) p ys
      texts_fit = fits-second entry_is wet xs at ys p g f

      pub entry_put : (zs : List ℕ) (q : ℕ) → Emits wet (texts_of a b d) ys p zs q → Emits wet (change_bytes (change_of a b k r w d) []) xs at zs q
      entry_put zs q m = emits_both entry_is wet xs at ys p g zs q m

pub ruleset entry_laws = (numbers_fit, texts_fit, entry_put)

-- ---- lists of one entry and of none

pub one-bytes : (c : Change) → list_bytes (c ∷ []) ≡ change_bytes c []
unfolding list_bytes
one-bytes c = refl

pub no_bytes : list_bytes [] ≡ []
unfolding list_bytes
no_bytes = refl
