-- The rows of a table one after the other, from a state that a caller holds: what `start` and `next` do with any bytes and any state, and what that makes of
-- a file that is accepted.
use Rattle.std.specs.Prelude.{◌≡◌, ℕ, ◌<◌, ◌≤◌, true, false, List, [], ◌∷◌, length, replicate}
use Rattle.std.proofs.lemmas.List.Edits.{sets as stored}
use Rattle.layout.specs.Rows.{most_bytes}
use Rattle.layout.specs.Refusals as refusals
use Rattle.b3d_spec.specs.Rules.{levels}
use Rattle.b3d_spec.specs.Tables.{vertex_width}
use Rattle.b3d_spec_plain_rows.specs.Flat.{flat_at}
use Rattle.b3d_spec_plain_rows.specs.Rows.{file_rows}
use Rattle.b3d_rows_positions.specs.Positions.{Comes}
use Rattle.b3d_rows_nodes.specs.NextNode.{Shallow}
use Rattle.b3d_rows_nodes.specs.declared.NextCursor.{NextCursor}
use Rattle.b3d_rows_nodes.specs.declared.RowCursor.{RowCursor}
use Rattle.b3d_rows.specs.NextRow.{rows_from, RowCursorAt}
use Rattle.b3d_rows_valid.specs.Cells.{SixteenCells}
use Rattle.b3d_rows_state.specs.declared.RowState.{RowState}
use Rattle.b3d_rows_state.specs.declared.RowGiven.{RowGiven}

-- ---- states

-- the cursor that a state is
abbrev pub cursor_of : RowState → RowCursor
cursor_of t = record {
  position = record {
    at = t.at;
    inner = record { at = t.inner_at; end = t.inner_end };
    items = record {
      rest = record { at = t.items_at; end = t.items_end };
      words = t.item_words;
      flags = t.item_flags;
      sets = t.item_sets;
      size = t.item_size;
    };
    counts = record {
      nodes = t.nodes;
      meshes = t.meshes;
      vertices = t.vertices;
      sets = t.sets;
      triangles = t.triangles;
      weights = t.weights;
      lists = t.lists;
      keys = t.keys;
    };
  };
  path = record { depth = t.depth; ends = t.open_ends; nodes = t.open_nodes };
}

-- a cursor over the rows of table k as a state
abbrev pub state_of : ℕ → RowCursor → RowState
state_of k x = record {
  table = k;
  item_flags = x.position.items.flags;
  item_sets = x.position.items.sets;
  item_size = x.position.items.size;
  item_words = x.position.items.words;
  items_at = x.position.items.rest.at;
  items_end = x.position.items.rest.end;
  inner_at = x.position.inner.at;
  inner_end = x.position.inner.end;
  at = x.position.at;
  nodes = x.position.counts.nodes;
  meshes = x.position.counts.meshes;
  vertices = x.position.counts.vertices;
  sets = x.position.counts.sets;
  triangles = x.position.counts.triangles;
  weights = x.position.counts.weights;
  lists = x.position.counts.lists;
  keys = x.position.counts.keys;
  depth = x.path.depth;
  open_ends = x.path.ends;
  open_nodes = x.path.nodes;
}

-- the state of no table
abbrev pub no_state : RowState
no_state = record {
  table = 0;
  item_flags = 0;
  item_sets = 0;
  item_size = 0;
  item_words = 0;
  items_at = 0;
  items_end = 0;
  inner_at = 0;
  inner_end = 0;
  at = 0;
  nodes = 0;
  meshes = 0;
  vertices = 0;
  sets = 0;
  triangles = 0;
  weights = 0;
  lists = 0;
  keys = 0;
  depth = 0;
  open_ends = replicate levels 0;
  open_nodes = replicate levels 0;
}

-- what `cursor_of` returns
pub record CursorOf (t : RowState) (r : RowCursor) : Type 0 where
  -- the cursor that t is
  pub is : r ≡ cursor_of t
  -- with 16 cells for ends and for row numbers
  pub cells : SixteenCells r.path

-- the rows that come from a state on
abbrev pub state_rows : List ℕ → RowState → List (List ℕ)
state_rows s t = rows_from t.table s (cursor_of t)

-- the state t can be gone on with over the file s
pub record CanGoOn (s : List ℕ) (t : RowState) : Type 0 where
  -- it names a table
  pub low : 1 ≤ t.table
  pub high : t.table ≤ 10
  -- the file is not too large
  pub small : length s ≤ most_bytes
  -- its numbers are those of a cursor over the rows of this table
  pub at : RowCursorAt t.table s (cursor_of t)

-- ---- the start

-- table k of the file s has a state before its first row
pub record Startable (k : ℕ) (s : List ℕ) : Type 0 where
  -- k is a table
  pub low : 1 ≤ k
  pub high : k ≤ 10
  -- the file has a size that files may have
  pub long : 12 ≤ length s
  pub small : length s ≤ most_bytes

-- r is the state before the first row of table k
pub record Started (k : ℕ) (s : List ℕ) (r : RowState) : Type 0 where
  -- it is one over table k
  pub table_is : r.table ≡ k
  -- it can be gone on with
  pub can : CanGoOn s r
  -- the rows to come are those of the file; for table 3 where no node stands in more than 15 others
  pub rows : (k ≡ 3 → Shallow 0 [] (flat_at s 12)) → state_rows s r ≡ file_rows k s

-- what `start` returns
pub record StateStarts (k : ℕ) (s : List ℕ) (r : RowState) : Type 0 where
  -- the state before the first row
  pub starts : Startable k s → Started k s r
  -- or that of no table
  pub none : (Startable k s → ⊥) → r ≡ no_state

-- ---- the next row

-- what `given` returns
pub record GivenIs (t : RowState) (n : NextCursor) (r : RowGiven) : Type 0 where
  -- where a row was given: the state behind it
  pub row : n.given ≡ true → r ≡ record { number = 0; place = 0; rows = 1; state = state_of t.table n.cursor }
  -- where none is left: the state as it was
  pub none : n.given ≡ false → r ≡ record { number = 0; place = 0; rows = 0; state = t }

-- r is a refusal by this number at this place, and nothing changed
pub record Refused (number place : ℕ) (t : RowState) (row put : List ℕ) (r : RowGiven) : Type 0 where
  pub answer : r ≡ record { number = number; place = place; rows = 0; state = t }
  -- the lent row stays
  pub same : put ≡ row

-- a row is given
pub record Given (s : List ℕ) (t : RowState) (row put : List ℕ) (r : RowGiven) : Type 0 where
  pub number_is : r.number ≡ 0
  pub place_is : r.place ≡ 0
  pub rows_are : r.rows ≡ 1
  -- the first of the rows to come is stored, and the others come from the new state on
  pub comes : Comes t.table (state_rows s t) (state_rows s r.state) row put
  -- which can be gone on with, over the same table
  pub can : CanGoOn s r.state
  pub table_is : r.state.table ≡ t.table

-- what `next` does, by the lent row, the state and the file
pub record StateNexts (s : List ℕ) (t : RowState) (row put : List ℕ) (r : RowGiven) : Type 0 where
  -- the lent row is too short
  pub short : length row < vertex_width → Refused refusals.too_short vertex_width t row put r
  -- the state cannot be gone on with
  pub other : vertex_width ≤ length row → (CanGoOn s t → ⊥) → Refused refusals.closed 0 t row put r
  -- a row is to come
  pub row_comes : vertex_width ≤ length row → CanGoOn s t → (state_rows s t ≡ [] → ⊥) → Given s t row put r
  -- none is left: so it is said, and nothing changed
  pub none : vertex_width ≤ length row → CanGoOn s t → state_rows s t ≡ [] → Refused 0 0 t row put r

-- ---- row after row

-- one `next` after the other, each with the state of the last and any row of 42 words: first these rows, each stored in the row that was lent, then none
abbrev pub Yields : List ℕ → RowState → List (List ℕ) → Type 0
Yields s t [] = (row put : List ℕ) (r : RowGiven) → vertex_width ≤ length row → StateNexts s t row put r → Refused 0 0 t row put r
Yields s t (cells ∷ rest) =
    (row put : List ℕ) (r : RowGiven) → vertex_width ≤ length row → StateNexts s t row put r
    → (r.number ≡ 0) × (r.rows ≡ 1) × (put ≡ stored row 0 cells) × Yields s r.state rest
