-- The next chunk of a tag in the flat run of a file's chunks: what the tables that have rows of such chunks alone have from a place on.
use Rattle.std.specs.Prelude as std
use Rattle.b3d_rows_positions.specs.declared.FoundChunk.{FoundChunk}
use Rattle.std.specs.Prelude.{◌≡◌, ℕ, ◌+◌, ◌≤◌, not, List, [], ◌++◌, length, T, Some, None}
use Rattle.wire.specs.Cursors.{left}
use Rattle.wire.specs.declared.Cursor.{Cursor}
use Rattle.b3d_spec.specs.declared.Counts.{Counts}
use Rattle.b3d_spec.specs.declared.Tag.{Tag}
use Rattle.b3d_spec.specs.declared.Tag.TheVariants.{NODE, MESH, KEYS}
use Rattle.b3d_spec.specs.Tags.{is}
use Rattle.b3d_spec_plain_rows.specs.Flat.{flat_at}
use Rattle.b3d_spec_plain_rows.specs.Rows.{counted, chunk_rows, flat_rows}
use Rattle.b3d_chunk_walk.specs.Walks.{BodyAt}

-- table j has rows of chunks of tag k alone
pub record Only (j : ℕ) (k : Tag) : Type 0 where
  -- a chunk of another tag adds no row
  pub other : (t : Tag) (p : ℕ) (b : List ℕ) (n : Counts) → T (not (is t k)) → chunk_rows j t p b n ≡ []

-- m are the counts n behind chunks of other tags than k: m has `nodes` nodes, and the counts that chunks of tag k change are those of n
pub record LaterCounts (k : Tag) (nodes : ℕ) (n m : Counts) : Type 0 where
  -- how many nodes came before
  pub nodes_are : m.nodes ≡ nodes
  -- a MESH alone changes the counts of meshes, vertices, sets and triangles
  pub meshes : T (is MESH k) → m.meshes ≡ n.meshes
  pub vertices : T (is MESH k) → m.vertices ≡ n.vertices
  pub sets : T (is MESH k) → m.sets ≡ n.sets
  pub triangles : T (is MESH k) → m.triangles ≡ n.triangles
  -- a KEYS alone changes that of keys
  pub keys : T (is KEYS k) → m.keys ≡ n.keys

-- table j's rows from a place on, after counts n, are those of the chunk at p and those from q on
pub record RowsFound (s : List ℕ) (from : ℕ) (k : Tag) (p : ℕ) (b : Cursor) (q nodes j : ℕ) (n : Counts) : Type 0 where
  -- the counts before the chunk
  pub counts : Counts
  -- they are n, and the nodes in between
  pub later : LaterCounts k nodes n counts
  -- the rows from `from` on
  pub rows : flat_rows j n (flat_at s from) ≡ chunk_rows j k p (left b s) counts ++ flat_rows j (counted k p (left b s) counts) (flat_at s q)

-- the first chunk of tag k from the place `from` on has its header at p and the body b; the run goes on at q, and `nodes` nodes came before
pub record ChunkFound (s : List ℕ) (from : ℕ) (k : Tag) (before p : ℕ) (b : Cursor) (q nodes : ℕ) : Type 0 where
  -- in each table that has rows of such chunks alone
  pub rows : (j : ℕ) → Only j k → (n : Counts) → n.nodes ≡ before → RowsFound s from k p b q nodes j n
  -- a node takes more than a byte
  pub few : nodes ≤ p
  -- its body is b
  pub body : BodyAt s p b
  -- it stands at `from` or behind it
  pub since : from ≤ p
  -- the run goes on behind its header
  pub behind : p + 8 ≤ q
  -- and behind its body, where it is no NODE
  pub past : T (not (is k NODE)) → b.end ≤ q
  -- within the file
  pub to : q ≤ length s

-- no chunk of tag k stands from the place `from` on
pub record NoChunk (s : List ℕ) (from : ℕ) (k : Tag) (before : ℕ) : Type 0 where
  -- a table that has rows of such chunks alone has no more
  pub rows : (j : ℕ) → Only j k → (n : Counts) → n.nodes ≡ before → flat_rows j n (flat_at s from) ≡ []

abbrev pub ChunkFoundIs : List ℕ → ℕ → Tag → ℕ → std.Option FoundChunk → Type 0
ChunkFoundIs s from k before (Some f) = ChunkFound s from k before f.at f.body f.next f.nodes
ChunkFoundIs s from k before None = NoChunk s from k before

-- what `find_chunk` returns
pub record ChunkFinds (s : List ℕ) (from : ℕ) (k : Tag) (before : ℕ) (r : std.Option FoundChunk) : Type 0 where
  -- by the case of the answer
  pub is : ChunkFoundIs s from k before r
