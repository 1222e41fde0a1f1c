-- The items of one chunk that are still to come, as rows of table k: vertices, triangles, weights or keys.
use Rattle.std.specs.Prelude.{◌≡◌, ℕ, ◌≤◌, ◌||◌, List, map, length, T, eqb}
use Rattle.wire.specs.Test.{if}
use Rattle.wire.specs.Cursors.{Inside, left}
use Rattle.wire.specs.declared.Cursor.{Cursor}
use Rattle.b3d_spec.specs.Mask.{ones, padded, vertex_mask, key_mask}
use Rattle.b3d_spec.specs.Rules.{vertex_words, highest_vertex_flags, most_sets, largest_set}
use Rattle.b3d_spec.specs.Tables.{vertex_width, key_width}
use Rattle.b3d_spec_plain_rows.specs.Plain.{whole, plain_weights, plain_triangles}
use Rattle.b3d_read_item_rows.specs.Items.{key_rows_of}
use Rattle.b3d_read_mesh_rows.specs.Meshes.{vertices_in}
use Rattle.b3d_rows_open_items.specs.declared.OpenItems.{OpenItems}

-- a table of items: 5, 7, 8 or 10
pub record ItemTable (k : ℕ) : Type 0 where
  -- one of the four
  pub is : T (eqb k 5 || (eqb k 7 || (eqb k 8 || eqb k 10)))

-- the row of an item with these words
unfoldable pub item_row : ℕ → OpenItems → List ℕ → List ℕ
item_row k i ws = if (eqb k 5) (padded (vertex_mask i.flags i.sets i.size) ws) (if (eqb k 10) (padded (key_mask i.flags) ws) ws)

-- the rows of the items that are all there
unfoldable pub item_rows : ℕ → List ℕ → OpenItems → List (List ℕ)
item_rows k s i = map (item_row k i) (whole i.words (left i.rest s))

-- of the chunk at p that has items of table k: a MESH, a KEYS, a TRIS, a BONE
unfoldable pub chunk_items : ℕ → ℕ → List ℕ → List (List ℕ)
chunk_items k p b = if (eqb k 5) (vertices_in p b) (if (eqb k 10) (key_rows_of b) (if (eqb k 7) (plain_triangles b).triangles (plain_weights b)))

-- the words of a vertex
pub record OfVertex (i : OpenItems) : Type 0 where
  -- the numbers are in their ranges
  pub flags : i.flags ≤ highest_vertex_flags
  pub sets : i.sets ≤ most_sets
  pub size : i.size ≤ largest_set
  -- and say how many words a vertex has
  pub words : i.words ≡ vertex_words i.flags i.sets i.size

-- the words of a key
pub record OfKey (i : OpenItems) : Type 0 where
  -- the flags say how many words a key has
  pub words : i.words ≡ ones (key_mask i.flags)
  -- at most 11
  pub few : i.words ≤ key_width

-- an item has as many words as its numbers say
pub record Measured (k : ℕ) (i : OpenItems) : Type 0 where
  -- it has a word
  pub some : 1 ≤ i.words
  -- and no more than the widest row
  pub most : i.words ≤ vertex_width
  -- a vertex
  pub vertex : k ≡ 5 → OfVertex i
  -- a key
  pub key : k ≡ 10 → OfKey i
  -- a triangle has three ids
  pub triangle : k ≡ 7 → i.words ≡ 3
  -- a weight has an id and a float
  pub weight : k ≡ 8 → i.words ≡ 2

-- all items of the chunk at p are to come
pub record AllItemsLeft (k : ℕ) (s : List ℕ) (p : ℕ) (b : Cursor) (i : OpenItems) : Type 0 where
  -- the items to come are all of the chunk's
  pub rows : item_rows k s i ≡ chunk_items k p (left b s)
  -- they lie in the file
  pub inside : Inside i.rest (length s)
  -- and have the words that their numbers say
  pub measured : Measured k i
