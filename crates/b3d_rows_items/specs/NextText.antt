-- Rows that are still to come of a table of texts: 1, the textures, and 2, the brushes. `size` says how many cells of a row name nothing.
use Rattle.std.specs.Prelude as std
use Rattle.std.specs.Prelude.{◌≡◌, ℕ, ◌+◌, ◌<◌, ◌≤◌, List, map, length, Some, None}
use Rattle.wire.specs.Cursors.{Inside, left}
use Rattle.b3d_spec.specs.Tables.{width, vertex_width}
use Rattle.b3d_spec_plain_rows.specs.Plain.{named_items}
use Rattle.b3d_spec_plain_rows.specs.Rows.{file_rows}
use Rattle.b3d_read_materials.specs.Texts.{named_row}
use Rattle.b3d_rows_open_items.specs.declared.OpenItems.{OpenItems}
use Rattle.b3d_rows_positions.specs.Positions.{Comes, NoRow}
use Rattle.b3d_rows_positions.specs.declared.Position.{Position}

-- the rows of the texts from a place on
unfoldable pub text_rows : List ℕ → OpenItems → List (List ℕ)
text_rows s i = map (named_row i.size) (named_items i.words i.rest.at (left i.rest s))

abbrev pub texts_ahead : List ℕ → Position → List (List ℕ)
texts_ahead s x = text_rows s x.items

-- texts of table k with their words
pub record TextsAt (k : ℕ) (s : List ℕ) (i : OpenItems) : Type 0 where
  -- they lie in the file
  pub inside : Inside i.rest (length s)
  -- at most 15 words follow a text
  pub words : i.words ≤ 15
  -- with name and unused cells they make a row
  pub wide : 2 + i.words + i.size ≡ width k
  -- which fits in a lent row
  pub most : 2 + i.words + i.size ≤ vertex_width

-- all texts of table k are to come
pub record TextsOpen (k : ℕ) (s : List ℕ) (i : OpenItems) : Type 0 where
  -- their rows are the table's
  pub rows : file_rows k s ≡ text_rows s i
  -- they have their words
  pub at : TextsAt k s i

-- a position in table k
pub record TextPosition (k : ℕ) (s : List ℕ) (x : Position) : Type 0 where
  -- the texts to come have their words
  pub at : TextsAt k s x.items
  -- places are numbers of four bytes
  pub small : length s < 0x100000000

-- the step from x to y, over a row of table k
pub record TextNext (k : ℕ) (s : List ℕ) (x : Position) (row put : List ℕ) (y : Position) : Type 0 where
  -- the next row is stored, and the others are to come
  pub comes : Comes k (texts_ahead s x) (texts_ahead s y) row put
  -- the position behind it is one in table k
  pub position : TextPosition k s y

abbrev pub TextNextIs : ℕ → List ℕ → Position → List ℕ → List ℕ → std.Option Position → Type 0
TextNextIs k s x row put (Some y) = TextNext k s x row put y
TextNextIs k s x row put None = NoRow (texts_ahead s x) row put

-- what `next_text` does
pub record TextNexts (k : ℕ) (s : List ℕ) (x : Position) (row put : List ℕ) (r : std.Option Position) : Type 0 where
  -- by the case of the answer
  pub is : TextNextIs k s x row put r
