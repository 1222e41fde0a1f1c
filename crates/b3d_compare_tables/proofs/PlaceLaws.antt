-- Places in one table of both files.
use mathlib.Core.Path.{◌≡◌, refl, ap, ap₂, sym, ◌∙◌}
use Prim.Native.Nat.{ℕ, ◌+◌, ◌-◌, ◌<◌, ◌≤◌}
use native.Mathlib.Omega.{arith}
use mathlib.Core.Bool.{Bool, not, false}
use mathlib.Core.List.{List, [], ◌++◌}
use lib.ListN.{length, length-append}
use borrow.Author.Tests.{not-false}
use Rattle.shared_output.proofs.PartLaws.{Both}
use Rattle.shared_put_or_count.specs.Emits.{RoomFrom}
use Rattle.shared_put_or_count.proofs.PutLaws.{fits-first}
use Rattle.b3d_spec_plain_rows.specs.Flat.{flat_at}
use Rattle.b3d_rows_open_items.specs.ItemsLeft.{item_rows}
use Rattle.b3d_rows_positions.specs.Positions.{items_later}
use Rattle.b3d_rows_nodes.specs.NextNode.{Shallow}
use Rattle.b3d_rows_nodes.specs.declared.RowCursor.{RowCursor}
use Rattle.b3d_rows.specs.NextRow.{rows_from, RowCursorAt, Starts}
use Rattle.b3d_rows_past.specs.Past.{cursor_past}
use Rattle.b3d_rows_past.proofs.PastLaws.{items_inside, items-measured, items-most, rows-front, rows-past, cursor-past}
use Rattle.b3d_compare_spec.specs.Changes.{table_changes}
use Rattle.b3d_compare_spec.specs.List.{list_bytes}
use Rattle.b3d_compare_shapes.specs.Shapes.{IsSameShape}
use Rattle.b3d_compare_items.specs.Items.{ItemPairs, PutItems}
use Rattle.b3d_compare_items.specs.declared.ItemsPut.{ItemsPut}
use Rattle.b3d_compare_items.proofs.TablePartLaws.{bytes-parts, bytes-front}
use Rattle.b3d_compare_next_rows.specs.NextRows.{bytes_from, Onward}
use Rattle.b3d_compare_next_rows.proofs.TableLaws.{come_end}
use Rattle.b3d_compare_tables.specs.Tables.{Comparable, table_bytes}

-- ---- rows of the open chunks' items

module _ (k r : ℕ) (a b : List ℕ) (x y : RowCursor) where
  module _ (t : Bool) (s : IsSameShape k x.position.items y.position.items t) (e : not t ≡ false) where
    pub pairs_are : RowCursorAt k a x → RowCursorAt k b y → r + length (rows_from k a x) ≤ 2097151 → ItemPairs k r a b x.position.items y.position.items
    pairs_are ax by h =
        let v = s.is (not-false t e) in
        record {
          shape = v;
          first_in = items_inside k a x v.table ax;
          second_in = items_inside k b y v.table by;
          measured = items-measured k a x v.table ax;
          most = omega (arith, items-most k a x v.table);
        }

    pub pairs_fit : (wet : Bool) (at : ℕ) (xs : List ℕ) → RoomFrom wet (bytes_from k a b r x y) at xs
        → RoomFrom wet (list_bytes (table_changes k a b r (item_rows k a x.position.items) (item_rows k b y.position.items))) at xs
    unfolding bytes_from
    pairs_fit wet at xs f =
        let v = s.is (not-false t e) in
        fits-first (bytes-front k a b (item_rows k a x.position.items) (item_rows k b y.position.items) (items_later k a x.position) (items_later k b y.position) r) wet xs at
        (rw (rows-front k a x v.table, rows-front k b y v.table) at f)

    module _ (wet : Bool) (xs : List ℕ) (at : ℕ) (ys : List ℕ) (u : ItemsPut) (v : PutItems k r a b x.position.items y.position.items wet xs at ys u) where
      pub run-first : x.position.items.rest.at + u.bytes ≤ x.position.items.rest.end
      run-first = v.first_there

      pub run-second : y.position.items.rest.at + u.bytes ≤ y.position.items.rest.end
      run-second = v.second_there

      first_past : rows_from k a x ≡ v.firsts ++ rows_from k a (cursor_past u.bytes x)
      first_past = rows-past k a x (s.is (not-false t e)).table u.bytes v.firsts v.first

      second_past : rows_from k b y ≡ v.seconds ++ rows_from k b (cursor_past u.bytes y)
      second_past = rows-past k b y (s.is (not-false t e)).table u.bytes v.seconds v.second

      pub run_is : Both (bytes_from k a b r x y) (list_bytes (table_changes k a b r v.firsts v.seconds)) (bytes_from k a b (r + u.rows) (cursor_past u.bytes x) (cursor_past u.bytes y))
      unfolding bytes_from
      run_is =
          let c = rows_from k a (cursor_past u.bytes x) in
          let d = rows_from k b (cursor_past u.bytes y) in
          record {
            is = ap₂ (λ (us vs : List (List ℕ)). list_bytes (table_changes k a b r us vs)) first_past second_past
                ∙ (bytes-parts k a b v.firsts v.seconds c d r (r + u.rows) (v.first_long ∙ sym v.second_long) (ap (λ (n : ℕ). r + n) v.first_long)).is;
          }

      pub run_on : RowCursorAt k a x → RowCursorAt k b y → (p q : List ℕ) → Onward k a b x y (cursor_past u.bytes x) (cursor_past u.bytes y) p q p q u.rows
      run_on ax by p q =
          let w = (s.is (not-false t e)).table in
          record {
            some = v.some;
            first_at = cursor-past k a x w u.bytes ax v.first_there;
            second_at = cursor-past k b y w u.bytes by v.second_there;
            first_on = ap length first_past ∙ length-append v.firsts (rows_from k a (cursor_past u.bytes x)) ∙ ap (λ (n : ℕ). n + length (rows_from k a (cursor_past u.bytes x))) v.first_long;
            second_on = ap length second_past ∙ length-append v.seconds (rows_from k b (cursor_past u.bytes y)) ∙ ap (λ (n : ℕ). n + length (rows_from k b (cursor_past u.bytes y))) v.second_long;
            first_kept = refl;
            second_kept = refl;
          }

-- ---- rows from r on are left

module _ (k rows : ℕ) (s : List ℕ) (v : Comparable k rows s) where
  pub file-low : 1 ≤ k
  file-low = v.low

  pub file-high : k ≤ 10
  file-high = v.high

  pub file-long : 12 ≤ length s
  file-long = v.long

  pub file-small : length s < 0x100000000
  file-small = v.small

  pub file-deep : Shallow 0 [] (flat_at s 12)
  file-deep = v.deep

pub ruleset file_laws = (file-low, file-high, file-long, file-small, file-deep)

pub record BothLeft (k rows : ℕ) (a b p₀ q₀ p q : List ℕ) (x y : RowCursor) (r : ℕ) : Type 0 where
  pub low : 1 ≤ k
  pub high : k ≤ 10
  pub first_at : RowCursorAt k a x
  pub second_at : RowCursorAt k b y
  pub first_left : length (rows_from k a x) + r ≡ rows
  pub second_left : length (rows_from k b y) + r ≡ rows
  pub most : rows ≤ 2097151
  pub first_long : 42 ≤ length p₀
  pub second_long : 42 ≤ length q₀
  pub first_same : length p ≡ length p₀
  pub second_same : length q ≡ length q₀

module _ (k rows : ℕ) (a b p₀ q₀ : List ℕ) where
  module _ (x y : RowCursor) (sa : Starts k a x) (sb : Starts k b y) where
    pub both_start : Comparable k rows a → Comparable k rows b → rows ≤ 2097151 → 42 ≤ length p₀ → 42 ≤ length q₀ → BothLeft k rows a b p₀ q₀ p₀ q₀ x y 0
    both_start va vb m hp hq =
        record {
          low = va.low;
          high = va.high;
          first_at = sa.at;
          second_at = sb.at;
          first_left = let z = ap length sa.rows in omega (arith, va.count);
          second_left = let z = ap length sb.rows in omega (arith, vb.count);
          most = m;
          first_long = hp;
          second_long = hq;
          first_same = refl;
          second_same = refl;
        }

    pub start_bytes : bytes_from k a b 0 x y ≡ table_bytes k a b
    unfolding bytes_from table_bytes
    start_bytes = rw (sa.rows, sb.rows)

  module _ (p q : List ℕ) (x y : RowCursor) (r : ℕ) (g : BothLeft k rows a b p₀ q₀ p q x y r) where
    pub row_long : 42 ≤ length p
    row_long = omega (arith, g.first_long, g.first_same)

    pub row_long_2 : 42 ≤ length q
    row_long_2 = omega (arith, g.second_long, g.second_same)

    pub row-most : r + length (rows_from k a x) ≤ 2097151
    row-most = omega (arith, g.most, g.first_left)

    module _ (h : rows ≤ r) where
      pub end_bytes : bytes_from k a b r x y ≡ []
      unfolding bytes_from
      end_bytes = come_end k a b r (rows_from k a x) (rows_from k b y) (omega (arith, g.first_left))

    module _ (h : r < rows) where
      pub row_some : 0 < length (rows_from k a x)
      row_some = omega (arith, g.first_left)

      pub row_some_2 : 0 < length (rows_from k b y)
      row_some_2 = omega (arith, g.second_left)

    module _ (x' y' : RowCursor) (p' q' : List ℕ) (n : ℕ) (s : Onward k a b x y x' y' p q p' q' n) where
      pub rows_sum : r + n < 4294967296
      rows_sum = omega (arith, g.most, g.first_left, s.first_on)

      pub rows_less : rows - (r + n) < rows - r
      rows_less = omega (arith, g.first_left, s.first_on, s.some)

      pub both_next : BothLeft k rows a b p₀ q₀ p' q' x' y' (r + n)
      both_next =
          record {
            low = g.low;
            high = g.high;
            first_at = s.first_at;
            second_at = s.second_at;
            first_left = omega (arith, g.first_left, s.first_on);
            second_left = omega (arith, g.second_left, s.second_on);
            most = g.most;
            first_long = g.first_long;
            second_long = g.second_long;
            first_same = s.first_kept ∙ g.first_same;
            second_same = s.second_kept ∙ g.second_same;
          }
