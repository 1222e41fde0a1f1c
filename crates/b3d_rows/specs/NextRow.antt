-- The rows of table k, from 1 to 10, that are still to come from a place.
use Rattle.std.specs.Prelude as std
use Rattle.std.specs.Prelude.{◌≡◌, ℕ, ◌≤◌, Bool, true, false, List, [], eqb, leb, Some, None}
use Rattle.wire.specs.Test.{if}
use Rattle.b3d_spec_plain_rows.specs.Flat.{flat_at}
use Rattle.b3d_spec_plain_rows.specs.Rows.{file_rows}
use Rattle.b3d_rows_open_items.specs.ItemsLeft.{ItemTable, Measured}
use Rattle.b3d_rows_open_items.specs.declared.OpenItems.{OpenItems}
use Rattle.b3d_rows_positions.specs.Positions.{items_ahead, ItemPosition, Comes, NoRow}
use Rattle.b3d_rows_positions.specs.declared.Position.{Position}
use Rattle.b3d_rows_chunks.specs.NextChunk.{chunks_ahead, ChunkPosition, sets_ahead, SetPosition}
use Rattle.b3d_rows_items.specs.NextText.{texts_ahead, TextsOpen, TextPosition}
use Rattle.b3d_rows_nodes.specs.NextNode.{Shallow, nodes_ahead, NodePosition}
use Rattle.b3d_rows_nodes.specs.declared.RowCursor.{RowCursor}
use Rattle.b3d_rows_nodes.specs.declared.NextCursor.{NextCursor}

-- of a table from 4 on
unfoldable pub parts_from : ℕ → List ℕ → Position → List (List ℕ)
parts_from k s x = if (eqb k 4) (chunks_ahead 4 s x) (if (eqb k 6) (sets_ahead s x) (if (eqb k 9) (chunks_ahead 9 s x) (items_ahead k s x)))

-- of any table
unfoldable pub rows_from : ℕ → List ℕ → RowCursor → List (List ℕ)
rows_from k s x = if (leb k 2) (texts_ahead s x.position) (if (eqb k 3) (nodes_ahead s x.position x.path) (parts_from k s x.position))

-- ---- positions

-- a position in a table from 4 on
pub record PartAt (k : ℕ) (s : List ℕ) (x : Position) : Type 0 where
  -- table 4
  pub meshes : k ≡ 4 → ChunkPosition s x
  -- table 6
  pub sets : k ≡ 6 → SetPosition s x
  -- table 9
  pub lists : k ≡ 9 → ChunkPosition s x
  -- tables 5, 7, 8 and 10
  pub items : ItemTable k → ItemPosition k s x

-- x is a cursor over the rows of table k of the file s
pub record RowCursorAt (k : ℕ) (s : List ℕ) (x : RowCursor) : Type 0 where
  -- tables 1 and 2
  pub texts : k ≤ 2 → TextPosition k s x.position
  -- table 3
  pub nodes : k ≡ 3 → NodePosition s x.position x.path
  -- tables 4 to 10
  pub parts : 4 ≤ k → PartAt k s x.position

-- ---- the functions

-- the items i that the rows of table k begin with
pub record FirstItems (k : ℕ) (s : List ℕ) (i : OpenItems) : Type 0 where
  -- tables 1 and 2: all textures or brushes
  pub texts : k ≤ 2 → TextsOpen k s i
  -- another table: none
  pub at : 3 ≤ k → i.rest.at ≡ 12
  pub end : 3 ≤ k → i.rest.end ≡ 12
  -- of the words of its items
  pub measured : ItemTable k → Measured k i

-- r is before the first row of table k
pub record Begins (k : ℕ) (s : List ℕ) (r : RowCursor) : Type 0 where
  -- the rows to come are those of the file; for table 3 where no node stands in more than 15 others
  pub rows : (k ≡ 3 → Shallow 0 [] (flat_at s 12)) → rows_from k s r ≡ file_rows k s
  -- r is a cursor in table k
  pub at : RowCursorAt k s r

-- all rows of table k are to come
pub record Starts (k : ℕ) (s : List ℕ) (r : RowCursor) : Type 0 where
  -- the rows to come are those of the file
  pub rows : rows_from k s r ≡ file_rows k s
  -- r is a cursor in table k
  pub at : RowCursorAt k s r

-- the step from x to y, over a row of table k from 4 on
pub record PartNext (k : ℕ) (s : List ℕ) (x : Position) (row put : List ℕ) (y : Position) : Type 0 where
  -- the next row is stored, and the others are to come
  pub comes : Comes k (parts_from k s x) (parts_from k s y) row put
  -- the position behind it is one in table k
  pub at : PartAt k s y

abbrev pub PartNextIs : ℕ → List ℕ → Position → List ℕ → List ℕ → std.Option Position → Type 0
PartNextIs k s x row put (Some y) = PartNext k s x row put y
PartNextIs k s x row put None = NoRow (parts_from k s x) row put

-- what `next_part` does
pub record PartNexts (k : ℕ) (s : List ℕ) (x : Position) (row put : List ℕ) (r : std.Option Position) : Type 0 where
  -- by the case of the answer
  pub is : PartNextIs k s x row put r

-- the cursor x at a later position, x itself where there is none
abbrev pub behind_row : RowCursor → std.Option Position → NextCursor
behind_row x (Some y) = record { given = true; cursor = record { position = y; path = x.path } }
behind_row x None = record { given = false; cursor = x }

-- the step from x to y, over a row of table k; this is what `next_row` does
pub record RowNext (k : ℕ) (s : List ℕ) (x : RowCursor) (row put : List ℕ) (y : RowCursor) : Type 0 where
  -- the next row is stored, and the others are to come
  pub comes : Comes k (rows_from k s x) (rows_from k s y) row put
  -- the cursor behind it is one in table k
  pub at : RowCursorAt k s y

-- no row of table k comes from x on, and y is x
pub record RowsEnd (k : ℕ) (s : List ℕ) (x : RowCursor) (row put : List ℕ) (y : RowCursor) : Type 0 where
  -- no row is to come, and the lent row stays
  pub ended : NoRow (rows_from k s x) row put
  -- and the cursor does
  pub still : y ≡ x

abbrev pub RowNextIs : ℕ → List ℕ → RowCursor → List ℕ → List ℕ → Bool → RowCursor → Type 0
RowNextIs k s x row put true y = RowNext k s x row put y
RowNextIs k s x row put false y = RowsEnd k s x row put y

-- what `next_or_end` does
pub record RowNexts (k : ℕ) (s : List ℕ) (x : RowCursor) (row put : List ℕ) (r : NextCursor) : Type 0 where
  -- by whether a row is given
  pub is : RowNextIs k s x row put r.given r.cursor
