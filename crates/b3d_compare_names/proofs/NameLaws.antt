-- What the entries of the names of two rows are, and a law for each way through the functions.
use Rattle.std.specs.Prelude.{Some, None}
use Rattle.std.specs.Prelude as std
use mathlib.Core.Path.{◌≡◌, refl, ap, ◌∙◌}
use Prim.Native.Nat.{ℕ, ◌<◌, ◌≤◌}
use native.Mathlib.Omega.{arith}
use mathlib.Core.Bool.{Bool, true, false}
use mathlib.Core.List.{List, [], ◌∷◌}
use lib.ListN.{get_or}
use lib.Dec.{lit≤}
use Rattle.wire.specs.Test.{if}
use Rattle.shared_put_or_count.specs.Emits.{RoomFrom, Emits}
use Rattle.shared_put_or_count.proofs.PutLaws.{emits_none, fits-same, emits_same}
use Rattle.b3d_spec.specs.Rebuild.{same, name_from}
use Rattle.b3d_compare_spec.specs.declared.WordKind.TheVariants.{Name, Length}
use Rattle.b3d_compare_spec.specs.declared.Span.{Span}
use Rattle.b3d_compare_spec.specs.declared.Difference.{Difference}
use Rattle.b3d_compare_spec.specs.declared.Difference.TheVariants.{Texts}
use Rattle.b3d_compare_spec.specs.Words.{word_kinds, words_of, kind_at}
use Rattle.b3d_compare_spec.specs.Changes.{text, same_cell, cell_of, cell_at, Change, word_changes}
use Rattle.b3d_compare_spec.specs.List.{change_bytes, list_bytes}
use Rattle.b3d_compare_spec.specs.Differences.{span_text, first_of, second_of}
use Rattle.b3d_compare_spec.proofs.WordLaws.{three}
use Rattle.b3d_compare_difference.specs.Spans.{SpanWithin, SpanIs, Clean}
use Rattle.b3d_compare_entries.specs.Entries.{Lies, change_of}
use Rattle.b3d_compare_entries.proofs.EntryLaws.{one-bytes, no_bytes}
use Rattle.b3d_compare_names.specs.NameEntries.{name_entries, NamesAre}

-- ---- `row_names`

module _ (k : ℕ) (h : 0 < k) (i : k < 4) where
  kind-name : kind_at k 0 ≡ Name
  unfolding kind_at word_kinds if
  kind-name = three (λ j. kind_at j 0 ≡ Name) k h i refl refl refl

  kind-length : kind_at k 1 ≡ Length
  unfolding kind_at word_kinds if
  kind-length = three (λ j. kind_at j 1 ≡ Length) k h i refl refl refl

  pub two_words : 2 ≤ words_of k
  unfolding word_kinds if
  two_words = three (λ j. 2 ≤ words_of j) k h i (lit≤ tt) (lit≤ tt) (lit≤ tt)

  pub two_long : (n : ℕ) → words_of k ≤ n → 2 ≤ n
  two_long n l = omega (arith, two_words)

  module _ (a b x y : List ℕ) (r : ℕ) where
    abbrev name_change : Change
    name_change = record { table = k; row = r; word = 0; first = text (name_from a x).bytes; second = text (name_from b y).bytes }

    name-part : word_changes k a b r x y 0 2 ≡ if (same (name_from a x).bytes (name_from b y).bytes) [] (name_change ∷ [])
    unfolding word_changes cell_at cell_of same_cell if
    name-part = rw (kind-name, kind-length)

    module _ (s t : Span) (hs : SpanIs a (get_or x 0 0) (get_or x 1 0) s) (ht : SpanIs b (get_or y 0 0) (get_or y 1 0) t) where
      same_names : same (span_text a s) (span_text b t) ≡ same (name_from a x).bytes (name_from b y).bytes
      unfolding name_from
      same_names = rw (hs.is, ht.is)

      module _ (f : Bool) (e : f ≡ same (span_text a s) (span_text b t)) where
        no_name : f ≡ true → word_changes k a b r x y 0 2 ≡ []
        unfolding if
        no_name g = name-part ∙ rw (← same_names, ← e, g)

        a_name : f ≡ false → word_changes k a b r x y 0 2 ≡ change_of a b k r 0 (Texts s t) ∷ []
        unfolding if change_of first_of second_of name_from
        a_name g = name-part ∙ rw (← same_names, ← e, g, hs.is, ht.is)

module _ (a b x y : List ℕ) (s t : Span) (hs : SpanIs a (get_or x 0 0) (get_or x 1 0) s) (ht : SpanIs b (get_or y 0 0) (get_or y 1 0) t) where
  pub first_lies : SpanWithin a s
  first_lies = hs.lies

  pub second_lies : SpanWithin b t
  second_lies = ht.lies

  module _ (f : Bool) (e : f ≡ same (span_text a s) (span_text b t)) where
    pub names_same : f ≡ true → NamesAre a b x y None
    unfolding name_entries
    names_same g = record { is = λ k r h i. no_name k h i a b x y r s t hs ht f e g; fine = tt }

    pub names-differ : f ≡ false → NamesAre a b x y (Some (Texts s t))
    unfolding name_entries
    names-differ g = record { is = λ k r h i. a_name k h i a b x y r s t hs ht f e g; fine = (tt, (hs.lies, ht.lies)) }

pub ruleset names_laws = (first_lies, second_lies, names_same, names-differ)

-- the bytes of a name's entry
module _ (k r : ℕ) (h : 0 < k) (i : k < 4) (a b x y : List ℕ) (n : std.Option Difference) (g : NamesAre a b x y n) where
  pub same_bytes : n ≡ None → list_bytes (word_changes k a b r x y 0 2) ≡ []
  unfolding name_entries
  same_bytes e = ap list_bytes (g.is k r h i ∙ rw e) ∙ no_bytes

  module _ (d : Difference) (e : n ≡ Some d) where
    pub differ-bytes : list_bytes (word_changes k a b r x y 0 2) ≡ change_bytes (change_of a b k r 0 d) []
    unfolding name_entries
    differ-bytes = ap list_bytes (g.is k r h i ∙ rw e) ∙ one-bytes (change_of a b k r 0 d)

module _ (a b x y : List ℕ) (n : std.Option Difference) (g : NamesAre a b x y n) (d : Difference) (e : n ≡ Some d) where
  pub name-clean : Clean d
  name-clean = (rw e at g.fine).0

  pub name-lies : Lies a b d
  name-lies = (rw e at g.fine).1

-- ---- `put_name`

module _ (k r : ℕ) (h : 0 < k) (i : k < 4) (a b x y : List ℕ) (n : std.Option Difference) (g : NamesAre a b x y n) (wet : Bool) (xs : List ℕ) (at : ℕ) where
  pub name-same : n ≡ None → Emits wet (list_bytes (word_changes k a b r x y 0 2)) xs at xs at
  name-same e = emits_none wet (list_bytes (word_changes k a b r x y 0 2)) xs at (same_bytes k r h i a b x y n g e)

  module _ (d : Difference) (e : n ≡ Some d) where
    pub name_fits : RoomFrom wet (list_bytes (word_changes k a b r x y 0 2)) at xs → RoomFrom wet (change_bytes (change_of a b k r 0 d) []) at xs
    name_fits f = fits-same (differ-bytes k r h i a b x y n g d e) wet xs at f

    pub name-put : (ys : List ℕ) (m : ℕ) → Emits wet (change_bytes (change_of a b k r 0 d) []) xs at ys m → Emits wet (list_bytes (word_changes k a b r x y 0 2)) xs at ys m
    name-put ys m p = emits_same (differ-bytes k r h i a b x y n g d e) wet xs at ys m p

pub ruleset name_laws = (two_long, name-clean, name-lies, name-same, name_fits, name-put)
