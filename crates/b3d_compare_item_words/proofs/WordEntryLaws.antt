-- Entries of two items: a law for each way through the functions.
use mathlib.Core.Path.{◌≡◌}
use Prim.Native.Nat.{ℕ, suc, ◌+◌, ◌-◌, ◌*◌, ◌<◌, ◌≤◌}
use native.Mathlib.Omega.{arith}
use mathlib.Core.Bool.{Bool, true, false}
use mathlib.Core.List.{List, [], ◌∷◌}
use lib.ListN.{length, get_or, drop}
use lib.Dec.{leb}
use borrow.Author.Tests.{ne_eqb}
use Rattle.wire.specs.Test.{if}
use Rattle.wire.specs.Bytes.{word_at}
use Rattle.shared_table_words.specs.Words.{words_at}
use Rattle.shared_table_words.proofs.StoreLaws.{drop-next}
use Rattle.shared_output.proofs.PartLaws.{Both}
use Rattle.shared_put_or_count.specs.Emits.{RoomFrom, Emits}
use Rattle.shared_put_or_count.proofs.PutLaws.{Left, left-none, left-done, left-fits, left_next}
use Rattle.b3d_compare_spec.specs.List.{list_bytes}
use Rattle.b3d_compare_spec.proofs.SizeLaws.{list-append}
use Rattle.b3d_compare_rows.specs.Rows.{word_entry}
use Rattle.b3d_compare_entries.proofs.EntryLaws.{no_bytes}
use Rattle.b3d_compare_item_words.specs.ItemWords.{item_float, item_entries}

-- ---- `item_float`

module _ (k w : ℕ) where
  pub float_vertex : k ≡ 5 → true ≡ item_float k w
  unfolding item_float if
  float_vertex e = rw e

  module _ (h : k ≡ 5 → ⊥) where
    pub float_triangle : k ≡ 7 → false ≡ item_float k w
    unfolding item_float if
    float_triangle e = rw e

    pub float_other : (k ≡ 7 → ⊥) → leb 1 w ≡ item_float k w
    unfolding item_float if
    float_other g = rw (ne_eqb k 5 h, ne_eqb k 7 g)

pub ruleset item_float_laws = (float_vertex, float_triangle, float_other)

-- ---- `put_item_words`: the words from i on are left

none_left : (k r : ℕ) (a b : List ℕ) (n : ℕ) → n ≡ 0 → (p q : ℕ) (l : List ℕ) → list_bytes (item_entries k r l (words_at n a p) (words_at n b q)) ≡ []
unfolding words_at item_entries
none_left k r a b n e p q [] = no_bytes
none_left k r a b n e p q (w ∷ l) = rw e no_bytes

module _ (a b : List ℕ) (p q n : ℕ) (cols : List ℕ) (k r : ℕ) where
  abbrev rest : ℕ → List ℕ
  rest i = list_bytes (item_entries k r (drop i cols) (words_at (n - i) a (p + 4 * i)) (words_at (n - i) b (q + 4 * i)))

  abbrev all : List ℕ
  all = list_bytes (item_entries k r cols (words_at n a p) (words_at n b q))

  pub record WordsLeft (wet : Bool) (xs : List ℕ) (at : ℕ) (ys : List ℕ) (next i : ℕ) : Type 0 where
    pub first_room : p + 4 * n ≤ length a
    pub second_room : q + 4 * n ≤ length b
    pub wide : n ≤ length cols
    pub left : Left wet all xs at ys next (rest i)

  module _ (wet : Bool) (xs : List ℕ) (at : ℕ) where
    pub words_start : p + 4 * n ≤ length a → q + 4 * n ≤ length b → n ≤ length cols
        → RoomFrom wet (list_bytes (item_entries k r cols (words_at n a p) (words_at n b q))) at xs → WordsLeft wet xs at xs at 0
    words_start ha hb hc f =
        let z : n - 0 ≡ n = omega arith in
        let y : p + 4 * 0 ≡ p = omega arith in
        let x : q + 4 * 0 ≡ q = omega arith in
        record { first_room = ha; second_room = hb; wide = hc; left = rw (z, y, x) (left-none wet all xs at f) }

    module _ (ys : List ℕ) (next i : ℕ) (g : WordsLeft wet xs at ys next i) where
      pub words_done : n ≤ i → Emits wet (list_bytes (item_entries k r cols (words_at n a p) (words_at n b q))) xs at ys next
      words_done h = left-done wet all xs at ys next (rest i) g.left (none_left k r a b (n - i) (omega arith) (p + 4 * i) (q + 4 * i) (drop i cols))

      module _ (h : i < n) where
        pub words_first : p + 4 * i + 4 ≤ length a
        words_first = omega (arith, g.first_room)

        pub words_second : q + 4 * i + 4 ≤ length b
        words_second = omega (arith, g.second_room)

        pub words_column : i < length cols
        words_column = omega (arith, g.wide)

        module _ (x y : ℕ) (ex : x ≡ word_at a (p + 4 * i)) (ey : y ≡ word_at b (q + 4 * i)) where
          abbrev here : List ℕ
          here = list_bytes (word_entry k r (get_or cols i 0) x y)

          two : Both (rest i) here (rest (i + 1))
          unfolding words_at item_entries
          two =
              let z : n - i ≡ suc (n - (i + 1)) = omega arith in
              let u : p + 4 * i + 4 ≡ p + 4 * (i + 1) = omega arith in
              let v : q + 4 * i + 4 ≡ q + 4 * (i + 1) = omega arith in
              record {
                is = rw (z, drop-next cols i 0 words_column, u, v, ← ex, ← ey)
                    (list-append (word_entry k r (get_or cols i 0) x y) (item_entries k r (drop (i + 1) cols) (words_at (n - (i + 1)) a (p + 4 * (i + 1))) (words_at (n - (i + 1)) b (q + 4 * (i + 1)))));
              }

          pub words_fit : RoomFrom wet (list_bytes (word_entry k r (get_or cols i 0) x y)) next ys
          words_fit = left-fits wet all xs at ys next (rest i) g.left here (rest (i + 1)) two

          pub words_next : (zs : List ℕ) (m : ℕ) → Emits wet (list_bytes (word_entry k r (get_or cols i 0) x y)) ys next zs m → WordsLeft wet xs at zs m (i + 1)
          words_next zs m e = record {
            first_room = g.first_room;
            second_room = g.second_room;
            wide = g.wide;
            left = left_next wet all xs at ys next (rest i) g.left here (rest (i + 1)) two zs m e;
          }

pub ruleset words_laws = (words_start, words_done, words_first, words_second, words_column, words_fit, words_next)
