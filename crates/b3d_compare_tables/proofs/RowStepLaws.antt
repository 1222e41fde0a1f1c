-- A law for each way through the functions.
use mathlib.Core.Path.{◌≡◌}
use Prim.Native.Nat.{ℕ, ◌+◌, ◌≤◌}
use mathlib.Core.Bool.{Bool, not, false}
use mathlib.Core.List.{List}
use lib.ListN.{length}
use Rattle.shared_put_or_count.specs.Emits.{RoomFrom, Emits}
use Rattle.shared_put_or_count.proofs.PutLaws.{Left, left-none, left-done, left_next}
use Rattle.b3d_rows_nodes.specs.declared.RowCursor.{RowCursor}
use Rattle.b3d_rows.specs.NextRow.{RowCursorAt, Starts}
use Rattle.b3d_rows_past.specs.Past.{cursor_past}
use Rattle.b3d_compare_spec.specs.Changes.{table_changes}
use Rattle.b3d_compare_spec.specs.List.{list_bytes}
use Rattle.b3d_compare_shapes.specs.Shapes.{IsSameShape}
use Rattle.b3d_compare_items.specs.Items.{PutItems}
use Rattle.b3d_compare_items.specs.declared.ItemsPut.{ItemsPut}
use Rattle.b3d_compare_next_rows.specs.declared.Turn.{Turn}
use Rattle.b3d_compare_next_rows.specs.NextRows.{bytes_from, PutTurn}
use Rattle.b3d_compare_tables.specs.Tables.{Comparable, table_bytes}
use Rattle.b3d_compare_tables.proofs.PlaceLaws.{BothLeft, both_start, start_bytes, end_bytes, both_next, run_is, run_on}

-- ---- `put_rows`

pub run-turn : (k r : ℕ) (a b : List ℕ) (x y : RowCursor) (t : Bool) → IsSameShape k x.position.items y.position.items t → not t ≡ false
    → (wet : Bool) (xs : List ℕ) (at : ℕ) (ys : List ℕ) (u : ItemsPut) → PutItems k r a b x.position.items y.position.items wet xs at ys u
    → RowCursorAt k a x → RowCursorAt k b y → (p q : List ℕ) (first second : RowCursor) → first ≡ cursor_past u.bytes x → second ≡ cursor_past u.bytes y
    → PutTurn k r a b x y p q p q wet xs at ys (record { first = first; second = second; rows = u.rows; next = u.next })
run-turn k r a b x y t s h wet xs at ys u v ax by p q first second e f =
    rw (e, f)
    (record {
      on = run_on k r a b x y t s h wet xs at ys u v ax by p q;
      here = list_bytes (table_changes k a b r v.firsts v.seconds);
      is = run_is k r a b x y t s h wet xs at ys u v;
      put = v.put;
    })

-- ---- `put_table`

-- rows from r on are left; so far the output is ys
pub record PutLeft (k rows : ℕ) (a b p₀ q₀ p q : List ℕ) (x y : RowCursor) (wet : Bool) (xs : List ℕ) (at : ℕ) (ys : List ℕ) (next r : ℕ) : Type 0 where
  pub both : BothLeft k rows a b p₀ q₀ p q x y r
  pub left : Left wet (table_bytes k a b) xs at ys next (bytes_from k a b r x y)

module _ (k rows : ℕ) (a b p₀ q₀ : List ℕ) (wet : Bool) (xs : List ℕ) (at : ℕ) where
  pub left_start : Comparable k rows a → Comparable k rows b → rows ≤ 2097151 → 42 ≤ length p₀ → 42 ≤ length q₀ → RoomFrom wet (table_bytes k a b) at xs → (x y : RowCursor) → Starts k a x → Starts k b y
      → PutLeft k rows a b p₀ q₀ p₀ q₀ x y wet xs at xs at 0
  left_start va vb m hp hq f x y sa sb =
      record {
        both = both_start k rows a b p₀ q₀ x y sa sb va vb m hp hq;
        left = rw (start_bytes k rows a b p₀ q₀ x y sa sb) (left-none wet (table_bytes k a b) xs at f);
      }

  module _ (p q : List ℕ) (x y : RowCursor) (ys : List ℕ) (next r : ℕ) (g : PutLeft k rows a b p₀ q₀ p q x y wet xs at ys next r) where
    pub left_kept : length p ≡ length p₀
    left_kept = g.both.first_same

    pub left_kept_2 : length q ≡ length q₀
    left_kept_2 = g.both.second_same

    pub left_same : length ys ≡ length xs
    left_same = g.left.put.long

    pub left_ends : rows ≤ r → Emits wet (table_bytes k a b) xs at ys next
    left_ends h = left-done wet (table_bytes k a b) xs at ys next (bytes_from k a b r x y) g.left (end_bytes k rows a b p₀ q₀ p q x y r g.both h)

    pub left_turns : (p' q' zs : List ℕ) (t : Turn) (s : PutTurn k r a b x y p q p' q' wet ys next zs t)
        → PutLeft k rows a b p₀ q₀ p' q' t.first t.second wet xs at zs t.next (r + t.rows)
    left_turns p' q' zs t s =
        record {
          both = both_next k rows a b p₀ q₀ p q x y r g.both t.first t.second p' q' t.rows s.on;
          left = left_next wet (table_bytes k a b) xs at ys next (bytes_from k a b r x y) g.left s.here (bytes_from k a b (r + t.rows) t.first t.second) s.is zs t.next s.put;
        }

pub ruleset left_laws = (left_start, left_ends, left_kept, left_kept_2, left_same)
