-- Places behind items of the open chunk: the rows that are still to come there.
use mathlib.Core.Path.{◌≡◌, refl, ap, sym, ◌∙◌}
use Prim.Native.Nat.{ℕ, ◌+◌, ◌<◌, ◌≤◌}
use native.Mathlib.Omega.{arith}
use mathlib.Core.List.{List, ◌++◌, append_assoc}
use lib.ListN.{length, length-append}
use Rattle.wire.specs.Cursors.{Inside}
use Rattle.b3d_rows_open_items.specs.ItemsLeft.{ItemTable, item_rows, Measured}
use Rattle.b3d_rows_open_items.proofs.ItemsLeftLaws.{by-table}
use Rattle.b3d_rows_positions.specs.Positions.{items_later, items_ahead}
use Rattle.b3d_rows_nodes.specs.declared.RowCursor.{RowCursor}
use Rattle.b3d_rows.specs.NextRow.{rows_from, RowCursorAt}
use Rattle.b3d_rows.proofs.NextRowLaws.{not-items, from-items, from_parts}
use Rattle.b3d_rows_past.specs.Past.{items_past, cursor_past}

pub past_is : (m : ℕ) (x : RowCursor)
    → record {
      position = record {
        at = x.position.at;
        inner = x.position.inner;
        items = record { rest = record { at = x.position.items.rest.at + m; end = x.position.items.rest.end }; words = x.position.items.words; flags = x.position.items.flags; sets = x.position.items.sets; size = x.position.items.size };
        counts = x.position.counts;
      };
      path = x.path;
    }
    ≡ cursor_past m x
unfolding cursor_past
past_is m x = refl

pub above-four : (k : ℕ) → ItemTable k → 4 < k
above-four k t = by-table (λ j. 4 < j) (omega arith) (omega arith) (omega arith) (omega arith) k t

module _ (k : ℕ) (s : List ℕ) (x : RowCursor) where
  module _ (t : ItemTable k) where
    -- the open chunk's items lie in the file
    pub items_inside : RowCursorAt k s x → Inside x.position.items.rest (length s)
    items_inside v = let h = above-four k t in ((v.parts (omega arith)).items t).items

    -- and have the words that their numbers say
    pub items-measured : RowCursorAt k s x → Measured k x.position.items
    items-measured v = let h = above-four k t in ((v.parts (omega arith)).items t).measured

    rows-items : (y : RowCursor) → rows_from k s y ≡ items_ahead k s y.position
    rows-items y =
        let h = above-four k t in
        from_parts k s y (omega arith) (λ e. omega arith) ∙ from-items k s y.position (λ e. omega arith) (λ e. not-items 6 tt k e t) (λ e. not-items 9 tt k e t)

    -- the rows of the open chunk's items come first
    pub rows-front : rows_from k s x ≡ item_rows k s x.position.items ++ items_later k s x.position
    unfolding items_ahead
    rows-front = rows-items x

    -- they are no more than are still to come
    pub items-most : length (item_rows k s x.position.items) ≤ length (rows_from k s x)
    items-most = omega (arith, ap length rows-front, length-append (item_rows k s x.position.items) (items_later k s x.position))

    module _ (m : ℕ) (rows : List (List ℕ)) (e : item_rows k s x.position.items ≡ rows ++ item_rows k s (items_past m x.position.items)) where
      pub rows-past : rows_from k s x ≡ rows ++ rows_from k s (cursor_past m x)
      unfolding items_ahead items_later cursor_past
      rows-past =
          rows-items x
          ∙ ap (λ (l : List (List ℕ)). l ++ items_later k s x.position) e
          ∙ append_assoc rows (item_rows k s (items_past m x.position.items)) (items_later k s x.position)
          ∙ ap (λ (l : List (List ℕ)). rows ++ l) (sym (rows-items (cursor_past m x)))

    pub cursor-past : (m : ℕ) → RowCursorAt k s x → x.position.items.rest.at + m ≤ x.position.items.rest.end → RowCursorAt k s (cursor_past m x)
    unfolding cursor_past
    cursor-past m v h =
        let g = above-four k t in
        let z = (v.parts (omega arith)).items t in
        let w = z.walk in
        let q = z.measured in
        record {
          texts = λ e. absurd (omega arith);
          nodes = λ e. absurd (omega arith);
          parts = λ e. record {
            meshes = λ f. absurd (omega arith);
            sets = λ f. absurd (not-items 6 tt k f t);
            lists = λ f. absurd (not-items 9 tt k f t);
            items = λ f. record {
              walk = record { run = w.run; inside = w.inside; nodes = w.nodes; meshes = w.meshes };
              items = record { before = omega arith; within = z.items.within };
              measured = record {
                some = q.some;
                most = q.most;
                vertex = λ i. record { flags = (q.vertex i).flags; sets = (q.vertex i).sets; size = (q.vertex i).size; words = (q.vertex i).words };
                key = λ i. record { words = (q.key i).words; few = (q.key i).few };
                triangle = q.triangle;
                weight = q.weight;
              };
            };
          };
        }
