-- Places behind items of the open chunk.
use Rattle.std.specs.Prelude.{ℕ, ◌+◌}
use Rattle.b3d_rows_open_items.specs.declared.OpenItems.{OpenItems}
use Rattle.b3d_rows_nodes.specs.declared.RowCursor.{RowCursor}

-- the items i behind the first m bytes of them
abbrev pub items_past : ℕ → OpenItems → OpenItems
items_past m i = record { rest = record { at = i.rest.at + m; end = i.rest.end }; words = i.words; flags = i.flags; sets = i.sets; size = i.size }

-- the cursor x moved on by m bytes of the open chunk's items
unfoldable pub cursor_past : ℕ → RowCursor → RowCursor
cursor_past m x =
    record {
      position = record { at = x.position.at; inner = x.position.inner; items = items_past m x.position.items; counts = x.position.counts };
      path = x.path;
    }
