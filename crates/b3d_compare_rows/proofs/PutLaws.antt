-- A law for each way through the functions that put.
use mathlib.Core.Path.{◌≡◌, ap, ◌∙◌}
use Prim.Native.Nat.{ℕ, ◌+◌, ◌-◌, ◌<◌, ◌≤◌}
use native.Mathlib.Omega.{arith}
use mathlib.Core.Bool.{Bool}
use mathlib.Core.List.{List, []}
use lib.ListN.{length, get_or}
use Rattle.shared_output.proofs.PartLaws.{Both}
use Rattle.shared_put_or_count.specs.Emits.{RoomFrom, Emits}
use Rattle.shared_put_or_count.proofs.PutLaws.{emits_none, fits-first, fits-second, emits_both, fits-same, emits_same, Left, left-none, left-done, left-fits, left_next}
use Rattle.b3d_compare_spec.specs.declared.Difference.{Difference}
use Rattle.b3d_compare_spec.specs.Words.{words_of}
use Rattle.b3d_compare_spec.specs.Changes.{word_changes, row_changes}
use Rattle.b3d_compare_spec.specs.List.{change_bytes, list_bytes}
use Rattle.b3d_compare_spec.specs.Differences.{numbers_of}
use Rattle.b3d_compare_spec.proofs.ExactLaws.{words-zero}
use Rattle.b3d_compare_spec.proofs.SizeLaws.{list-append}
use Rattle.b3d_compare_entries.specs.Entries.{change_of}
use Rattle.b3d_compare_entries.proofs.EntryLaws.{no_bytes}
use Rattle.b3d_compare_rows.specs.Rows.{word_entry, NumbersFrom}
use Rattle.b3d_compare_rows.proofs.RowLaws.{word_small, numbers-clean, numbers_lie, entry-none, number-bytes, plain_left, plain_step, plain_end, plain-zero, plain-high, plain-named, row_plain, row_named}

-- ---- `put_word`

module _ (k r w p q : ℕ) (wet : Bool) (xs : List ℕ) (at : ℕ) where
  pub word_same : p ≡ q → Emits wet (list_bytes (word_entry k r w p q)) xs at xs at
  word_same e = emits_none wet (list_bytes (word_entry k r w p q)) xs at (ap list_bytes (entry-none k r w p q e) ∙ no_bytes)

  module _ (h : p ≡ q → ⊥) (hp : p < 4294967296) (hq : q < 4294967296) (f : Bool) (d : Difference) (e : d ≡ numbers_of f p q) (a b : List ℕ) where
    pub word_fits : RoomFrom wet (list_bytes (word_entry k r w p q)) at xs → RoomFrom wet (change_bytes (change_of a b k r w d) []) at xs
    word_fits g = fits-same (number-bytes k r w p q h hp hq f d e a b) wet xs at g

    pub word-put : (ys : List ℕ) (n : ℕ) → Emits wet (change_bytes (change_of a b k r w d) []) xs at ys n → Emits wet (list_bytes (word_entry k r w p q)) xs at ys n
    word-put ys n g = emits_same (number-bytes k r w p q h hp hq f d e a b) wet xs at ys n g

pub ruleset word_laws = (word_small, numbers-clean, numbers_lie, word_same, word_fits, word-put)

-- ---- `put_plain`: the words from w on are left

module _ (k r : ℕ) (x y : List ℕ) where
  abbrev rest : ℕ → List ℕ
  rest w = list_bytes (word_changes k [] [] r x y w (words_of k - w))

  pub record WordsLeft (wet : Bool) (xs : List ℕ) (at from : ℕ) (ys : List ℕ) (next w : ℕ) : Type 0 where
    pub plain : NumbersFrom k from
    pub past : from ≤ w
    pub left : Left wet (rest from) xs at ys next (rest w)

  module _ (wet : Bool) (xs : List ℕ) (at from : ℕ) where
    pub words_start : NumbersFrom k from → RoomFrom wet (list_bytes (word_changes k [] [] r x y from (words_of k - from))) at xs → WordsLeft wet xs at from xs at from
    words_start g f = record { plain = g; past = omega arith; left = left-none wet (rest from) xs at f }

    module _ (ys : List ℕ) (next w : ℕ) (g : WordsLeft wet xs at from ys next w) (n : ℕ) (en : n ≡ words_of k) where
      module _ (h : w < n) where
        abbrev here : List ℕ
        here = list_bytes (word_entry k r w (get_or x w 0) (get_or y w 0))

        two : Both (rest w) here (rest (w + 1))
        two = record { is = ap list_bytes (plain_step k r x y from g.plain w g.past (omega arith)) ∙ list-append (word_entry k r w (get_or x w 0) (get_or y w 0)) (plain_left k r x y (w + 1)) }

        pub words_low : w < words_of k
        words_low = omega arith

        pub words_fit : RoomFrom wet (list_bytes (word_entry k r w (get_or x w 0) (get_or y w 0))) next ys
        words_fit = left-fits wet (rest from) xs at ys next (rest w) g.left here (rest (w + 1)) two

        pub words_next : (zs : List ℕ) (p : ℕ) → Emits wet (list_bytes (word_entry k r w (get_or x w 0) (get_or y w 0))) ys next zs p → WordsLeft wet xs at from zs p (w + 1)
        words_next zs p e =
            record { plain = g.plain; past = omega (arith, g.past); left = left_next wet (rest from) xs at ys next (rest w) g.left here (rest (w + 1)) two zs p e }

      pub words_done : n ≤ w → Emits wet (list_bytes (word_changes k [] [] r x y from (words_of k - from))) xs at ys next
      words_done h = left-done wet (rest from) xs at ys next (rest w) g.left (ap list_bytes (plain_end k r x y w (omega arith)) ∙ no_bytes)

pub ruleset plain_laws = (words_start, words_low, words_fit, words_next, words_done)

-- ---- `put_row`

module _ (k r : ℕ) (a b x y : List ℕ) (wet : Bool) (xs : List ℕ) (at : ℕ) where
  plain-bytes : NumbersFrom k 0 → list_bytes (row_changes k a b r x y) ≡ list_bytes (word_changes k [] [] r x y 0 (words_of k - 0))
  plain-bytes g = ap list_bytes (row_plain k r a b x y g)

  pub zero-fits : k ≡ 0 → RoomFrom wet (list_bytes (row_changes k a b r x y)) at xs → RoomFrom wet (list_bytes (word_changes k [] [] r x y 0 (words_of k - 0))) at xs
  zero-fits e f = fits-same (plain-bytes (plain-zero k e)) wet xs at f

  pub high_fits : 4 ≤ k → RoomFrom wet (list_bytes (row_changes k a b r x y)) at xs → RoomFrom wet (list_bytes (word_changes k [] [] r x y 0 (words_of k - 0))) at xs
  high_fits e f = fits-same (plain-bytes (plain-high k e)) wet xs at f

  module _ (ys : List ℕ) (n : ℕ) (m : Emits wet (list_bytes (word_changes k [] [] r x y 0 (words_of k - 0))) xs at ys n) where
    pub zero-put : k ≡ 0 → Emits wet (list_bytes (row_changes k a b r x y)) xs at ys n
    zero-put e = emits_same (plain-bytes (plain-zero k e)) wet xs at ys n m

    pub high-put : 4 ≤ k → Emits wet (list_bytes (row_changes k a b r x y)) xs at ys n
    high-put e = emits_same (plain-bytes (plain-high k e)) wet xs at ys n m

  module _ (d : k ≡ 0 → ⊥) (i : k < 4) where
    pub named-low : 0 < k
    named-low = omega arith

    pub named-plain : NumbersFrom k 2
    named-plain = plain-named k (omega arith) i

    two_parts : Both (list_bytes (row_changes k a b r x y)) (list_bytes (word_changes k a b r x y 0 2)) (list_bytes (word_changes k [] [] r x y 2 (words_of k - 2)))
    two_parts = record { is = ap list_bytes (row_named k r a b x y (omega arith) i) ∙ list-append (word_changes k a b r x y 0 2) (word_changes k [] [] r x y 2 (words_of k - 2)) }

    module _ (f : RoomFrom wet (list_bytes (row_changes k a b r x y)) at xs) where
      pub name-first : RoomFrom wet (list_bytes (word_changes k a b r x y 0 2)) at xs
      name-first = fits-first two_parts wet xs at f

      module _ (ys : List ℕ) (n : ℕ) (m : Emits wet (list_bytes (word_changes k a b r x y 0 2)) xs at ys n) where
        pub plain_second : RoomFrom wet (list_bytes (word_changes k [] [] r x y 2 (words_of k - 2))) n ys
        plain_second = fits-second two_parts wet xs at ys n m f

        pub named_put : (zs : List ℕ) (q : ℕ) → Emits wet (list_bytes (word_changes k [] [] r x y 2 (words_of k - 2))) ys n zs q → Emits wet (list_bytes (row_changes k a b r x y)) xs at zs q
        named_put zs q p = emits_both two_parts wet xs at ys n m zs q p

pub ruleset row_laws = (plain-zero, plain-high, zero-fits, high_fits, zero-put, high-put, named-low, named-plain, name-first, plain_second, named_put)

-- ---- `put_twelve`

-- the twelve are as long as a row of table 0
pub twelve-long : (l : List ℕ) → length l ≡ 12 → words_of 0 ≤ length l
twelve-long l e = omega (arith, words-zero)
