-- Items of two open chunks, pair by pair: a law for each need.
use mathlib.Core.Path.{◌≡◌, refl, ap, ap₂, sym, subst, ◌∙◌}
use Prim.Native.Nat.{ℕ, ◌+◌, ◌-◌, ◌*◌, ◌<◌, ◌≤◌}
use native.Mathlib.Omega.{arith}
use mathlib.Core.Bool.{Bool}
use mathlib.Core.List.{List, [], ◌∷◌, ◌++◌, append_assoc, append-nil}
use lib.ListN.{length, length-append}
use Rattle.wire.specs.Test.{if}
use Rattle.wire.specs.Cursors.{Inside}
use Rattle.wire.proofs.LeftLaws.{span}
use Rattle.shared_table_words.specs.Words.{words_at}
use Rattle.shared_table_words.proofs.CopyLaws.{length-words, words-at}
use Rattle.shared_output.proofs.PartLaws.{Both}
use Rattle.shared_put_or_count.specs.Emits.{RoomFrom, Emits}
use Rattle.shared_put_or_count.proofs.PutLaws.{emits_none, fits-first, fits-second, emits_both}
use Rattle.b3d_spec.proofs.Rows.MaskLaws.{vertex-words}
use Rattle.b3d_rows_open_items.specs.ItemsLeft.{ItemTable, item_row, item_rows, Measured}
use Rattle.b3d_rows_open_items.specs.declared.OpenItems.{OpenItems}
use Rattle.b3d_rows_open_items.proofs.ItemsLeftLaws.{by-table, items-one}
use Rattle.b3d_compare_spec.specs.Changes.{row_changes, table_changes}
use Rattle.b3d_compare_spec.specs.List.{list_bytes}
use Rattle.b3d_compare_spec.proofs.SizeLaws.{list-append}
use Rattle.b3d_compare_entries.proofs.EntryLaws.{no_bytes}
use Rattle.b3d_compare_item_words.specs.ItemWords.{ItemColumns, item_entries}
use Rattle.b3d_compare_item_words.proofs.RowEntryLaws.{vertex-row, key_row, triangle-row, weight-row}
use Rattle.b3d_compare_shapes.specs.Shapes.{SameShape}
use Rattle.b3d_compare_items.specs.Items.{ItemPairs, PutItems}
use Rattle.b3d_compare_items.proofs.TablePartLaws.{bytes-parts}

-- ---- the entries of one pair

module _ (k : ℕ) (t : ItemTable k) (i : OpenItems) (m : Measured k i) (cols : List ℕ) (g : ItemColumns k i.flags i.sets i.size cols) where
  pair_entries : (a b xs ys : List ℕ) (r : ℕ) → length xs ≡ i.words → length ys ≡ i.words → row_changes k a b r (item_row k i xs) (item_row k i ys) ≡ item_entries k r cols xs ys
  unfolding item_row if
  pair_entries a b xs ys r lx ly =
      by-table (λ j. j ≡ k → row_changes j a b r (item_row j i xs) (item_row j i ys) ≡ item_entries j r cols xs ys)
      (λ e. let v = m.vertex (sym e) in
      let w = v.words ∙ sym (vertex-words i.flags i.sets i.size v.flags v.sets v.size) in
      vertex-row i.flags i.sets i.size r a b xs ys cols (columns_of e) (lx ∙ w) (ly ∙ w))
      (λ e. triangle-row i.flags i.sets i.size r a b xs ys cols (columns_of e) (lx ∙ m.triangle (sym e)) (ly ∙ m.triangle (sym e)))
      (λ e. weight-row i.flags i.sets i.size r a b xs ys cols (columns_of e) (lx ∙ m.weight (sym e)) (ly ∙ m.weight (sym e)))
      (λ e. key_row i.flags i.sets i.size r a b xs ys cols (columns_of e) (lx ∙ (m.key (sym e)).words) (ly ∙ (m.key (sym e)).words))
      k t refl
    where
      columns_of : {j : ℕ} → j ≡ k → ItemColumns j i.flags i.sets i.size cols
      columns_of {j} e = subst (λ (n : ℕ). ItemColumns n i.flags i.sets i.size cols) (sym e) g

-- ---- the rows of a chunk's items from a place on

abbrev items_at : ℕ → OpenItems → OpenItems
items_at p i = record { rest = span p i.rest.end; words = i.words; flags = i.flags; sets = i.sets; size = i.size }

measured-at : (k p : ℕ) (i : OpenItems) → Measured k i → Measured k (items_at p i)
measured-at k p i m = record {
  some = m.some;
  most = m.most;
  vertex = λ q. record { flags = (m.vertex q).flags; sets = (m.vertex q).sets; size = (m.vertex q).size; words = (m.vertex q).words };
  key = λ q. record { words = (m.key q).words; few = (m.key q).few };
  triangle = m.triangle;
  weight = m.weight;
}

rows-one : (k : ℕ) (s : List ℕ) (i : OpenItems) → Inside i.rest (length s) → Measured k i → (p : ℕ) → p + 4 * i.words ≤ i.rest.end
    → item_rows k s (items_at p i) ≡ item_row k i (words_at i.words s p) ∷ item_rows k s (items_at (p + 4 * i.words) i)
unfolding item_row
rows-one k s i n m p h =
    let c : Inside (span p i.rest.end) (length s) = record { before = omega arith; within = n.within } in
    items-one k s (items_at p i) c (measured-at k p i m) (omega arith)
    ∙ ap (λ (ws : List ℕ). item_row k i ws ∷ item_rows k s (items_at (p + 4 * i.words) i)) (words-at i.words s (span p i.rest.end) c h)

-- items of the same shape make the same rows
row-shape : (k : ℕ) (i j : OpenItems) → SameShape k i j → (ws : List ℕ) → item_row k j ws ≡ item_row k i ws
unfolding item_row
row-shape k i j s ws = rw (s.flags, s.sets, s.size)

measured-shape : (k : ℕ) (i j : OpenItems) → SameShape k i j → Measured k i → Measured k j
measured-shape k i j s m = record {
  some = omega (arith, s.words, m.some);
  most = omega (arith, s.words, m.most);
  vertex = λ q. let v = m.vertex q in record {
    flags = omega (arith, s.flags, v.flags);
    sets = omega (arith, s.sets, v.sets);
    size = omega (arith, s.size, v.size);
    words = rw (← s.words, ← s.flags, ← s.sets, ← s.size) v.words;
  };
  key = λ q. let v = m.key q in record { words = rw (← s.words, ← s.flags) v.words; few = omega (arith, s.words, v.few) };
  triangle = λ q. rw (← s.words) (m.triangle q);
  weight = λ q. rw (← s.words) (m.weight q);
}

-- ---- `put_pairs`: the items from p and q on are left, the first of them row `row`

module _ (k r : ℕ) (a b : List ℕ) (i j : OpenItems) (cols : List ℕ) (wet : Bool) (xs : List ℕ) (at : ℕ) where
  pub record PairsLeft (ys : List ℕ) (step p q row next : ℕ) : Type 0 where
    pub step_is : step ≡ 4 * i.words
    pub pairs : ItemPairs k r a b i j
    pub columns : ItemColumns k i.flags i.sets i.size cols
    pub first_low : i.rest.at ≤ p
    pub first_high : p ≤ i.rest.end
    pub second_at : q + i.rest.at ≡ j.rest.at + p
    pub second_high : q ≤ j.rest.end
    pub row_low : r ≤ row
    pub none : row ≡ r → p ≡ i.rest.at
    pub firsts : List (List ℕ)
    pub seconds : List (List ℕ)
    pub first_long : r + length firsts ≡ row
    pub second_long : r + length seconds ≡ row
    pub first : item_rows k a i ≡ firsts ++ item_rows k a (items_at p i)
    pub second : item_rows k b j ≡ seconds ++ item_rows k b (items_at q j)
    pub put : Emits wet (list_bytes (table_changes k a b r firsts seconds)) xs at ys next
    pub fits : RoomFrom wet (list_bytes (table_changes k a b row (item_rows k a (items_at p i)) (item_rows k b (items_at q j)))) next ys

  pub pairs_start : ItemPairs k r a b i j → ItemColumns k i.flags i.sets i.size cols
      → RoomFrom wet (list_bytes (table_changes k a b r (item_rows k a i) (item_rows k b j))) at xs → PairsLeft xs (4 * i.words) i.rest.at j.rest.at r at
  unfolding table_changes
  pairs_start v g f = record {
    step_is = refl;
    pairs = v;
    columns = g;
    first_low = omega arith;
    first_high = v.first_in.before;
    second_at = omega arith;
    second_high = v.second_in.before;
    row_low = omega arith;
    none = λ e. refl;
    firsts = [];
    seconds = [];
    first_long = omega arith;
    second_long = omega arith;
    first = refl;
    second = refl;
    put = emits_none wet (list_bytes (table_changes k a b r [] [])) xs at no_bytes;
    fits = f;
  }

  module _ (ys : List ℕ) (step p q row next : ℕ) (g : PairsLeft ys step p q row next) where
    es : step ≡ 4 * i.words
    es = g.step_is

    done : (row ≡ r → ⊥) → PutItems k r a b i j wet xs at ys (record { rows = row - r; bytes = p - i.rest.at; next = next })
    done n =
        let u : i.rest.at + (p - i.rest.at) ≡ p = omega (arith, g.first_low) in
        let v : j.rest.at + (p - i.rest.at) ≡ q = omega (arith, g.first_low, g.second_at) in
        record {
          some = omega (arith, g.row_low);
          firsts = g.firsts;
          seconds = g.seconds;
          first_long = omega (arith, g.first_long);
          second_long = omega (arith, g.second_long);
          first_there = omega (arith, g.first_low, g.first_high);
          second_there = omega (arith, g.first_low, g.second_at, g.second_high);
          first = g.first ∙ ap (λ (m : ℕ). g.firsts ++ item_rows k a (items_at m i)) (sym u);
          second = g.second ∙ ap (λ (m : ℕ). g.seconds ++ item_rows k b (items_at m j)) (sym v);
          put = g.put;
        }

    pub pairs_done : i.rest.end - p < step → PutItems k r a b i j wet xs at ys (record { rows = row - r; bytes = p - i.rest.at; next = next })
    pairs_done h = done (λ e. omega (arith, es, g.none e, g.pairs.shape.first_some))

    pub pairs_stop : j.rest.end - q < step → PutItems k r a b i j wet xs at ys (record { rows = row - r; bytes = p - i.rest.at; next = next })
    pairs_stop h = done (λ e. omega (arith, es, g.none e, g.second_at, g.pairs.shape.second_some, g.pairs.shape.words))

    module _ (h : step ≤ i.rest.end - p) (l : step ≤ j.rest.end - q) where
      pub pairs_first : p + 4 * i.words ≤ length a
      pairs_first = omega (arith, es, g.first_high, g.pairs.first_in.within)

      pub pairs_second : q + 4 * i.words ≤ length b
      pairs_second = omega (arith, es, g.second_high, g.pairs.second_in.within)

      pub pairs_wide : i.words ≤ length cols
      pairs_wide = omega (arith, g.columns.long, g.pairs.measured.most)

      here-first : item_rows k a (items_at p i) ≡ item_row k i (words_at i.words a p) ∷ item_rows k a (items_at (p + 4 * i.words) i)
      here-first = rows-one k a i g.pairs.first_in g.pairs.measured p (omega (arith, es, g.first_high))

      here-second : item_rows k b (items_at q j) ≡ item_row k i (words_at i.words b q) ∷ item_rows k b (items_at (q + 4 * i.words) j)
      here-second =
          let w = g.pairs.shape.words in
          rows-one k b j g.pairs.second_in (measured-shape k i j g.pairs.shape g.pairs.measured) q (omega (arith, es, g.second_high))
          ∙ ap₂ ◌∷◌ (row-shape k i j g.pairs.shape (words_at j.words b q) ∙ ap (λ (n : ℕ). item_row k i (words_at n b q)) (sym w)) (ap (λ (n : ℕ). item_rows k b (items_at (q + 4 * n) j)) (sym w))

      abbrev x : List ℕ
      x = item_row k i (words_at i.words a p)

      abbrev y : List ℕ
      y = item_row k i (words_at i.words b q)

      abbrev first_rest : List (List ℕ)
      first_rest = item_rows k a (items_at (p + 4 * i.words) i)

      abbrev second_rest : List (List ℕ)
      second_rest = item_rows k b (items_at (q + 4 * i.words) j)

      pub pairs_most : row + 1 < 4294967296
      pairs_most = omega (arith, g.pairs.most, ap length g.first, length-append g.firsts (item_rows k a (items_at p i)), ap length here-first, g.first_long)

      entries_are : list_bytes (row_changes k a b row x y) ≡ list_bytes (item_entries k row cols (words_at i.words a p) (words_at i.words b q))
      entries_are =
          ap list_bytes (pair_entries k g.pairs.shape.table i g.pairs.measured cols g.columns a b (words_at i.words a p) (words_at i.words b q) row (length-words i.words a p) (length-words i.words b q))

      two : Both (list_bytes (table_changes k a b row (item_rows k a (items_at p i)) (item_rows k b (items_at q j)))) (list_bytes (item_entries k row cols (words_at i.words a p) (words_at i.words b q)))
          (list_bytes (table_changes k a b (row + 1) first_rest second_rest))
      unfolding table_changes
      two = record {
        is = ap₂ (λ (us vs : List (List ℕ)). list_bytes (table_changes k a b row us vs)) here-first here-second
            ∙ list-append (row_changes k a b row x y) (table_changes k a b (row + 1) first_rest second_rest)
            ∙ ap (λ (l : List ℕ). l ++ list_bytes (table_changes k a b (row + 1) first_rest second_rest)) entries_are;
      }

      pub pairs_fit : RoomFrom wet (list_bytes (item_entries k row cols (words_at i.words a p) (words_at i.words b q))) next ys
      pairs_fit = fits-first two wet ys next g.fits

      one-row : list_bytes (table_changes k a b row (x ∷ []) (y ∷ [])) ≡ list_bytes (item_entries k row cols (words_at i.words a p) (words_at i.words b q))
      unfolding table_changes
      one-row = ap list_bytes (append-nil (row_changes k a b row x y)) ∙ entries_are

      more : Both (list_bytes (table_changes k a b r (g.firsts ++ (x ∷ [])) (g.seconds ++ (y ∷ [])))) (list_bytes (table_changes k a b r g.firsts g.seconds))
          (list_bytes (item_entries k row cols (words_at i.words a p) (words_at i.words b q)))
      more = record {
        is = (bytes-parts k a b g.firsts g.seconds (x ∷ []) (y ∷ []) r row (omega (arith, g.first_long, g.second_long)) g.first_long).is
            ∙ ap (λ (l : List ℕ). list_bytes (table_changes k a b r g.firsts g.seconds) ++ l) one-row;
      }

      pub pairs_next : (zs : List ℕ) (n : ℕ) → Emits wet (list_bytes (item_entries k row cols (words_at i.words a p) (words_at i.words b q))) ys next zs n
          → PairsLeft zs step (p + step) (q + step) (row + 1) n
      pairs_next zs n e = rw es (record {
        step_is = refl;
        pairs = g.pairs;
        columns = g.columns;
        first_low = omega (arith, g.first_low);
        first_high = omega (arith, es, g.first_high);
        second_at = omega (arith, g.second_at);
        second_high = omega (arith, es, g.second_high);
        row_low = omega (arith, g.row_low);
        none = λ f. absurd (omega (arith, g.row_low));
        firsts = g.firsts ++ (x ∷ []);
        seconds = g.seconds ++ (y ∷ []);
        first_long = omega (arith, length-append g.firsts (x ∷ []), g.first_long);
        second_long = omega (arith, length-append g.seconds (y ∷ []), g.second_long);
        first = g.first ∙ ap (λ (l : List (List ℕ)). g.firsts ++ l) here-first ∙ sym (append_assoc g.firsts (x ∷ []) first_rest);
        second = g.second ∙ ap (λ (l : List (List ℕ)). g.seconds ++ l) here-second ∙ sym (append_assoc g.seconds (y ∷ []) second_rest);
        put = emits_both more wet xs at ys next g.put zs n e;
        fits = fits-second two wet ys next zs n e g.fits;
      })

      pub pairs_less : i.rest.end - (p + step) < i.rest.end - p
      pairs_less = omega (arith, es, g.pairs.measured.some, g.first_high)

-- what the first turn needs
pub step_small : (k r : ℕ) (a b : List ℕ) (i j : OpenItems) → ItemPairs k r a b i j → i.words ≤ 42
step_small k r a b i j v = v.measured.most
