-- Rows that are still to come of tables that have a row for a chunk: meshes and key lists, and the triangle sets of each MESH.
use Rattle.std.specs.Prelude as std
use Rattle.std.specs.Prelude.{◌≡◌, ℕ, ◌+◌, ◌-◌, ◌<◌, ◌≤◌, List, [], ◌∷◌, ◌++◌, length, Some, None}
use Rattle.wire.specs.Cursors.{Inside, left}
use Rattle.b3d_spec.specs.declared.Counts.{Counts}
use Rattle.b3d_spec.specs.Tables.{set_rows, triangle_rows}
use Rattle.b3d_spec_plain_rows.specs.Flat.{flat_at}
use Rattle.b3d_spec_plain_rows.specs.Plain.{plain_triangles, sets_of}
use Rattle.b3d_spec_plain_rows.specs.Rows.{flat_rows}
use Rattle.b3d_chunk_walk.specs.Seeks.{ahead}
use Rattle.b3d_read_item_rows.specs.Items.{set_row}
use Rattle.b3d_rows_positions.specs.Positions.{MeshPosition, Comes, NoRow}
use Rattle.b3d_rows_positions.specs.declared.Position.{Position}
use Rattle.b3d_rows_chunks.specs.declared.FoundSet.{FoundSet}

-- ---- tables 4 and 9

unfoldable pub chunks_ahead : ℕ → List ℕ → Position → List (List ℕ)
chunks_ahead k s x = flat_rows k x.counts (flat_at s x.at)

-- a position in one of them
pub record ChunkPosition (s : List ℕ) (x : Position) : Type 0 where
  -- the run goes on within the file
  pub run : x.at ≤ length s
  -- places are numbers of four bytes
  pub small : length s < 0x100000000
  -- there are no more nodes before than bytes
  pub nodes : x.counts.nodes ≤ x.at
  -- and no more vertices
  pub vertices : x.counts.vertices ≤ x.at
  -- and no more triangle sets
  pub sets : x.counts.sets ≤ x.at
  -- and no more keys
  pub keys : x.counts.keys ≤ x.at

-- the step from x to y, over a row of table k
pub record ChunkNext (k : ℕ) (s : List ℕ) (x : Position) (row put : List ℕ) (y : Position) : Type 0 where
  -- the next row is stored, and the others are to come
  pub comes : Comes k (chunks_ahead k s x) (chunks_ahead k s y) row put
  -- the position behind it is one in the table
  pub position : ChunkPosition s y

abbrev pub ChunkNextIs : ℕ → List ℕ → Position → List ℕ → List ℕ → std.Option Position → Type 0
ChunkNextIs k s x row put (Some y) = ChunkNext k s x row put y
ChunkNextIs k s x row put None = NoRow (chunks_ahead k s x) row put

-- what `next_mesh` and `next_list` do
pub record ChunkNexts (k : ℕ) (s : List ℕ) (x : Position) (row put : List ℕ) (r : std.Option Position) : Type 0 where
  -- by the case of the answer
  pub is : ChunkNextIs k s x row put r

-- ---- table 6

-- the triangles of the TRIS that are still to come in the open MESH
abbrev pub triangles_left : List ℕ → Position → ℕ
triangles_left s x = length (triangle_rows (sets_of (ahead s x.inner)))

-- the counts behind the open MESH
unfoldable pub behind_sets : List ℕ → Position → Counts
behind_sets s x = record {
  nodes = x.counts.nodes;
  meshes = x.counts.meshes;
  vertices = x.counts.vertices;
  sets = x.counts.sets;
  triangles = x.counts.triangles + triangles_left s x;
  weights = x.counts.weights;
  lists = x.counts.lists;
  keys = x.counts.keys;
}

-- the sets of the open MESH that are still to come, and those of the others
unfoldable pub sets_ahead : List ℕ → Position → List (List ℕ)
sets_ahead s x = set_rows (x.counts.meshes - 1) x.counts.triangles (sets_of (ahead s x.inner)) ++ flat_rows 6 (behind_sets s x) (flat_at s x.at)

-- x is a position in table 6
pub record SetPosition (s : List ℕ) (x : Position) : Type 0 where
  -- it is a position of the file
  pub walk : MeshPosition s x
  -- places are numbers of four bytes
  pub small : length s < 0x100000000
  -- the open MESH ends where the run goes on, or before
  pub before : x.inner.end ≤ x.at
  -- there are no more triangles before than bytes
  pub triangles : x.counts.triangles ≤ x.inner.at

-- the position x with n triangles more before it
abbrev pub with_triangles : ℕ → Position → Position
with_triangles n x = record {
  at = x.at;
  inner = x.inner;
  items = x.items;
  counts = record {
    nodes = x.counts.nodes;
    meshes = x.counts.meshes;
    vertices = x.counts.vertices;
    sets = x.counts.sets;
    triangles = x.counts.triangles + n;
    weights = x.counts.weights;
    lists = x.counts.lists;
    keys = x.counts.keys;
  };
}

-- the first set that comes from x on is that of a TRIS with this body
pub record SetFound (s : List ℕ) (x : Position) (r : FoundSet) : Type 0 where
  -- the rows are its row and those behind it
  pub rows : sets_ahead s x
      ≡ set_row (r.position.counts.meshes - 1) r.position.counts.triangles (plain_triangles (left r.body s))
      ∷ sets_ahead s (with_triangles (length (plain_triangles (left r.body s)).triangles) r.position)
  -- its body lies in the file
  pub inside : Inside r.body (length s)
  -- the position behind it is one of the file
  pub walk : MeshPosition s r.position
  -- places are numbers of four bytes
  pub small : length s < 0x100000000
  -- the open MESH ends where the run goes on, or before
  pub before : r.position.inner.end ≤ r.position.at
  -- there are no more triangles before than bytes
  pub triangles : r.position.counts.triangles + length (plain_triangles (left r.body s)).triangles ≤ r.position.inner.at

-- no set comes from x on
pub record NoSet (s : List ℕ) (x : Position) : Type 0 where
  -- none is to come
  pub rows : sets_ahead s x ≡ []

abbrev pub SetFoundIs : List ℕ → Position → std.Option FoundSet → Type 0
SetFoundIs s x (Some f) = SetFound s x f
SetFoundIs s x None = NoSet s x

-- what `find_set` returns
pub record SetFinds (s : List ℕ) (x : Position) (r : std.Option FoundSet) : Type 0 where
  -- by the case of the answer
  pub is : SetFoundIs s x r

-- the step from x to y, over a row of table 6
pub record SetNext (s : List ℕ) (x : Position) (row put : List ℕ) (y : Position) : Type 0 where
  -- the next row is stored, and the others are to come
  pub comes : Comes 6 (sets_ahead s x) (sets_ahead s y) row put
  -- the position behind it is one in table 6
  pub position : SetPosition s y

abbrev pub SetNextIs : List ℕ → Position → List ℕ → List ℕ → std.Option Position → Type 0
SetNextIs s x row put (Some y) = SetNext s x row put y
SetNextIs s x row put None = NoRow (sets_ahead s x) row put

-- what `next_set` does
pub record SetNexts (s : List ℕ) (x : Position) (row put : List ℕ) (r : std.Option Position) : Type 0 where
  -- by the case of the answer
  pub is : SetNextIs s x row put r
