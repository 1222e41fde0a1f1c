-- The rows that are still to come from a position, for the tables of items.
use Rattle.std.specs.Prelude as std
use Rattle.std.specs.Prelude.{◌≡◌, ℕ, ◌+◌, ◌-◌, ◌*◌, ◌<◌, ◌≤◌, List, [], ◌∷◌, ◌++◌, length, eqb, Some, None}
use Rattle.std.proofs.lemmas.List.Edits.{sets as stored}
use Rattle.wire.specs.Test.{if}
use Rattle.wire.specs.Cursors.{Inside, left}
use Rattle.wire.specs.declared.Cursor.{Cursor}
use Rattle.b3d_spec.specs.declared.Tag.{Tag}
use Rattle.b3d_spec.specs.declared.Tag.TheVariants.{MESH, BONE, KEYS}
use Rattle.b3d_spec.specs.Tables.{start, triangle_rows, width}
use Rattle.b3d_spec_plain_rows.specs.Flat.{flat_at}
use Rattle.b3d_spec_plain_rows.specs.Plain.{sets_of}
use Rattle.b3d_spec_plain_rows.specs.Rows.{flat_rows}
use Rattle.b3d_chunk_walk.specs.Seeks.{ahead, inner}
use Rattle.b3d_rows_positions.specs.FindChunk.{ChunkFound, NoChunk}
use Rattle.b3d_rows_open_items.specs.ItemsLeft.{item_rows, Measured}
use Rattle.b3d_rows_positions.specs.declared.Position.{Position}

-- ---- the next row

-- of these rows of table k the first is stored in `put`, a row that was `row`; the others are `later`
pub record Comes (k : ℕ) (rows later : List (List ℕ)) (row put : List ℕ) : Type 0 where
  -- the first row
  pub cells : List ℕ
  -- and those behind it
  pub is : rows ≡ cells ∷ later
  -- it has a cell for each word of the table
  pub wide : length cells ≡ width k
  -- its cells are stored from the start of the lent row on
  pub stores : put ≡ stored row 0 cells

-- none of these rows is there, and `put`, a row that was `row`, is as it was
pub record NoRow (rows : List (List ℕ)) (row put : List ℕ) : Type 0 where
  -- no row is to come
  pub none : rows ≡ []
  -- the lent row stays
  pub same : put ≡ row

-- ---- what is still to come

-- the triangles of the open MESH behind its open TRIS
unfoldable pub inner_rows : ℕ → List ℕ → Cursor → List (List ℕ)
inner_rows k s c = if (eqb k 7) (triangle_rows (sets_of (ahead s c))) []

-- table k's rows behind the open chunk of items; they tell no counts
unfoldable pub items_later : ℕ → List ℕ → Position → List (List ℕ)
items_later k s x = inner_rows k s x.inner ++ flat_rows k start (flat_at s x.at)

-- table k's rows from a position on
unfoldable pub items_ahead : ℕ → List ℕ → Position → List (List ℕ)
items_ahead k s x = item_rows k s x.items ++ items_later k s x

-- the bytes that are still to be looked at for chunks
abbrev pub left_over : List ℕ → Position → ℕ
left_over s x = length s - x.at + (x.inner.end - x.inner.at)

-- ---- the next MESH

-- x is a position of the file s
pub record MeshPosition (s : List ℕ) (x : Position) : Type 0 where
  -- the run goes on within the file
  pub run : x.at ≤ length s
  -- the open MESH's chunks lie in the file
  pub inside : Inside x.inner (length s)
  -- there are no more nodes before than bytes
  pub nodes : x.counts.nodes ≤ x.at
  -- and no more meshes
  pub meshes : x.counts.meshes ≤ x.at

-- y is in the next MESH after x
pub record MeshOpened (s : List ℕ) (x y : Position) : Type 0 where
  -- the place of the MESH's header
  pub head : ℕ
  -- its body
  pub body : Cursor
  -- it is the first from x on
  pub met : ChunkFound s x.at MESH x.counts.nodes head body y.at y.counts.nodes
  -- the chunks to come are all of its chunks
  pub inner_is : ahead s y.inner ≡ inner head (left body s)
  -- y is a position of the file
  pub position : MeshPosition s y
  -- less is left to be looked at
  pub less : left_over s y < left_over s x
  -- the MESH stands behind x
  pub since : x.at ≤ y.inner.at
  -- and before the place where the run goes on
  pub before : y.inner.end ≤ y.at
  -- the open chunk's items stay
  pub items : y.items ≡ x.items
  -- one mesh more came before
  pub meshes : y.counts.meshes ≡ x.counts.meshes + 1
  -- the other counts stay
  pub vertices : y.counts.vertices ≡ x.counts.vertices
  pub sets : y.counts.sets ≡ x.counts.sets
  pub triangles : y.counts.triangles ≡ x.counts.triangles

abbrev pub MeshMore : List ℕ → Position → std.Option Position → Type 0
MeshMore s x (Some y) = MeshOpened s x y
MeshMore s x None = NoChunk s x.at MESH x.counts.nodes

-- what `open_mesh` returns
pub record MeshOpens (s : List ℕ) (x : Position) (r : std.Option Position) : Type 0 where
  -- by the case of the answer
  pub is : MeshMore s x r

-- ---- the next chunk of items

-- the tag of the chunks that have the items of table k
unfoldable pub owner_of : ℕ → Tag
owner_of k = if (eqb k 8) BONE (if (eqb k 10) KEYS MESH)

-- a position in table k of the file
pub record ItemPosition (k : ℕ) (s : List ℕ) (x : Position) : Type 0 where
  -- it is a position of the file
  pub walk : MeshPosition s x
  -- the open chunk's items lie in the file
  pub items : Inside x.items.rest (length s)
  -- and have the words that their numbers say
  pub measured : Measured k x.items

-- where no item of the open chunk is left, the rows from y on are those from x on
pub record ItemsOn (k : ℕ) (s : List ℕ) (x y : Position) : Type 0 where
  -- the same rows are to come
  pub rows : item_rows k s x.items ≡ [] → items_later k s x ≡ items_ahead k s y
  -- y is a position in table k
  pub position : ItemPosition k s y
  -- less is left to be looked at
  pub less : left_over s y < left_over s x

-- no row of table k comes behind the open chunk of x
pub record NoItems (k : ℕ) (s : List ℕ) (x : Position) : Type 0 where
  -- none is to come
  pub rows : items_later k s x ≡ []

abbrev pub ItemsMoreIs : ℕ → List ℕ → Position → std.Option Position → Type 0
ItemsMoreIs k s x (Some y) = ItemsOn k s x y
ItemsMoreIs k s x None = NoItems k s x

-- what `more_chunks` and `more_sets` return
pub record ItemsMore (k : ℕ) (s : List ℕ) (x : Position) (r : std.Option Position) : Type 0 where
  -- by the case of the answer
  pub is : ItemsMoreIs k s x r

-- y stands before the first item that comes from x on
pub record ItemFound (k : ℕ) (s : List ℕ) (x y : Position) : Type 0 where
  -- the same rows are to come
  pub rows : items_ahead k s x ≡ items_ahead k s y
  -- y is a position in table k
  pub position : ItemPosition k s y
  -- its first item is whole
  pub there : 4 * y.items.words ≤ y.items.rest.end - y.items.rest.at

-- no row of table k comes from x on
pub record NoItemFound (k : ℕ) (s : List ℕ) (x : Position) : Type 0 where
  -- none is to come
  pub rows : items_ahead k s x ≡ []

abbrev pub ItemFoundIs : ℕ → List ℕ → Position → std.Option Position → Type 0
ItemFoundIs k s x (Some y) = ItemFound k s x y
ItemFoundIs k s x None = NoItemFound k s x

-- the first item that comes from x on is found, or that there is none
pub record ItemFinds (k : ℕ) (s : List ℕ) (x : Position) (r : std.Option Position) : Type 0 where
  -- by the case of the answer
  pub is : ItemFoundIs k s x r
