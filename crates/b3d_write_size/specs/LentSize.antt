-- How long the shortest file of lent tables is: what each counted row adds, and the chunks around them.
use Rattle.std.specs.Prelude.{ℕ, ◌+◌, ◌*◌, ◌≤◌, List, length, eqb}
use Rattle.wire.specs.Test.{if}
use Rattle.layout.specs.Lists.{All}
use Rattle.b3d_spec.specs.declared.Counts.{Counts}
use Rattle.b3d_spec.specs.Rebuild.{Lent, cut, lent_rows}
use Rattle.b3d_spec.specs.Tables.{node_width, texture_width, brush_width, mesh_width, key_list_width}
use Rattle.b3d_check_spec.specs.Rooms.{Limited}
use Rattle.b3d_write_row_size.specs.RowSize.{rows_bytes, Sizable, table_most}

-- the bytes of the header and fixed data of a chunk around `rows` rows; 0 without a row
unfoldable pub around : ℕ → ℕ → ℕ
around rows bytes = if (eqb rows 0) 0 bytes

-- the size of TEXS and BRUS, if they have rows: c₁ rows r₁ of table 1, c₂ rows r₂ of table 2 with `slots` ids each
unfoldable pub lists_bytes : ℕ → ℕ → ℕ → List (List ℕ) → List (List ℕ) → ℕ
lists_bytes slots c₁ c₂ r₁ r₂ = (around c₁ 8 + rows_bytes 1 29 r₁) + (around c₂ 12 + rows_bytes 2 (29 + 4 * slots) r₂)

-- what the rows r₃ of nodes, r₄ of meshes and r₉ of key lists add
unfoldable pub nodes_bytes : List (List ℕ) → List (List ℕ) → List (List ℕ) → ℕ
nodes_bytes r₃ r₄ r₉ = rows_bytes 3 0 r₃ + rows_bytes 4 0 r₄ + rows_bytes 9 0 r₉

-- the size of the shortest file of the lent tables T: BB3D's header and version, the lists, the nodes; a TRIS has a header and a brush, a triangle three
-- words, a weight two
unfoldable pub lent_size : Lent → ℕ
lent_size T =
    12 + lists_bytes T.slots (T.count 1) (T.count 2) (lent_rows T 1) (lent_rows T 2) + nodes_bytes (lent_rows T 3) (lent_rows T 4) (lent_rows T 9)
    + 12 * T.count 6 + 12 * T.count 7 + 8 * T.count 8

-- neither TEXS with BRUS nor the nodes add more bytes than this: each adds up three tables at most; two such sums are below 2^64
abbrev pub part_most : ℕ
part_most = 3 * table_most

-- the rows of tables 3, 4 and 9 are there and can be added up
pub record NodesSizable (n : Counts) (t₃ t₄ t₉ : List ℕ) : Type 0 where
  -- no count passes the row limit
  pub limited : Limited n
  -- the nodes are there
  pub room₃ : node_width * n.nodes ≤ length t₃
  -- the meshes are there
  pub room₄ : mesh_width * n.meshes ≤ length t₄
  -- the key lists are there
  pub room₉ : key_list_width * n.lists ≤ length t₉
  -- each mesh has numbers in range
  pub sizable₄ : All (Sizable 4) (cut mesh_width n.meshes t₄)
  -- each key list has flags in range
  pub sizable₉ : All (Sizable 9) (cut key_list_width n.lists t₉)

-- the size of the shortest file, by n_texs (`slots`), counts c₁, c₂ and n, and the tables whose rows differ in size
unfoldable pub file_bytes : ℕ → ℕ → ℕ → Counts → List ℕ → List ℕ → List ℕ → List ℕ → List ℕ → ℕ
file_bytes slots c₁ c₂ n t₁ t₂ t₃ t₄ t₉ =
    12 + lists_bytes slots c₁ c₂ (cut texture_width c₁ t₁) (cut brush_width c₂ t₂) + nodes_bytes (cut node_width n.nodes t₃) (cut mesh_width n.meshes t₄)
    (cut key_list_width n.lists t₉)
    + 12 * n.sets + 12 * n.triangles + 8 * n.weights
