-- The rows of a MESH in tables 4 to 7, and how far these are filled.
use Rattle.std.specs.Prelude.{◌≡◌, ℕ, ◌+◌, ◌-◌, ◌*◌, ◌≤◌, List, length}
use Rattle.std.proofs.lemmas.List.Edits.{sets as stored}
use Rattle.wire.specs.Cursors.{left}
use Rattle.wire.specs.declared.Cursor.{Cursor}
use Rattle.layout.specs.Rows.{joined}
use Rattle.b3d_spec.specs.Tables.{mesh_width}
use Rattle.b3d_spec_plain_rows.specs.Plain.{plain_mesh}
use Rattle.b3d_read_mesh_rows.specs.Meshes.{vertices_in, mesh_cells}
use Rattle.b3d_read_triangle_rows.specs.Sets.{triangles_in, sets_in, triangle_count}
use Rattle.b3d_read_meshes.specs.declared.MeshMarks.{MeshMarks}

-- the marks m are no larger than `at` bytes of a file allow
pub record MeshMarksFit (at : ℕ) (m : MeshMarks) : Type 0 where
  -- no more nodes came before than bytes
  pub nodes : m.nodes ≤ at
  -- no more meshes came before than bytes
  pub meshes : m.meshes ≤ at
  -- no more vertices came before than bytes
  pub vertices : m.vertices ≤ at
  -- no more triangle sets came before than bytes
  pub sets : m.sets ≤ at
  -- no more triangles came before than bytes
  pub triangles : m.triangles ≤ at
  -- table 4 has nine cells a row
  pub words4 : m.to4 ≤ mesh_width * at
  -- table 6 has four cells a row
  pub words6 : m.to6 ≤ 4 * at

-- tables of lengths l4 to l7, filled as far as m says, have room for the rows of the MESH at p with body b
pub record MeshRoom (s : List ℕ) (p : ℕ) (b : Cursor) (m : MeshMarks) (l4 l5 l6 l7 : ℕ) : Type 0 where
  -- its own row fits table 4
  pub room4 : m.to4 + 9 ≤ l4
  -- its vertices fit table 5
  pub room5 : m.to5 + length (joined (vertices_in p (left b s))) ≤ l5
  -- its triangle sets fit table 6
  pub room6 : m.to6 + length (joined (sets_in p (left b s) m.meshes m.triangles)) ≤ l6
  -- its triangles fit table 7
  pub room7 : m.to7 + length (joined (triangles_in p (left b s))) ≤ l7

-- what `put_one` promises: of tables t4 to t7 before it, u4 to u7 after it, the marks m before it, and its answer r
pub record MeshStored (s : List ℕ) (p : ℕ) (b : Cursor) (m : MeshMarks) (t4 t5 t6 t7 u4 u5 u6 u7 : List ℕ) (r : MeshMarks) : Type 0 where
  -- the row of the mesh is stored in table 4, and no other cell is changed
  pub rows4 : u4 ≡ stored t4 m.to4 (mesh_cells (m.nodes - 1) m.vertices m.sets (plain_mesh p (left b s)))
  -- its vertices are stored in table 5
  pub rows5 : u5 ≡ stored t5 m.to5 (joined (vertices_in p (left b s)))
  -- its triangle sets are stored in table 6
  pub rows6 : u6 ≡ stored t6 m.to6 (joined (sets_in p (left b s) m.meshes m.triangles))
  -- its triangles are stored in table 7
  pub rows7 : u7 ≡ stored t7 m.to7 (joined (triangles_in p (left b s)))
  -- no node is added
  pub nodes : r.nodes ≡ m.nodes
  -- one mesh is added
  pub meshes : r.meshes ≡ m.meshes + 1
  -- its vertices are added
  pub vertices : r.vertices ≡ m.vertices + length (plain_mesh p (left b s)).vertices
  -- its triangle sets are added
  pub sets : r.sets ≡ m.sets + length (plain_mesh p (left b s)).triangle_sets
  -- its triangles are added
  pub triangles : r.triangles ≡ m.triangles + triangle_count p (left b s)
  -- the next free cell of table 4 is behind the row
  pub next4 : r.to4 ≡ m.to4 + 9
  -- that of table 5 is behind the vertices
  pub next5 : r.to5 ≡ m.to5 + length (joined (vertices_in p (left b s)))
  -- that of table 6 is behind the triangle sets
  pub next6 : r.to6 ≡ m.to6 + length (joined (sets_in p (left b s) m.meshes m.triangles))
  -- that of table 7 is behind the triangles
  pub next7 : r.to7 ≡ m.to7 + length (joined (triangles_in p (left b s)))
  -- the marks are no larger than the bytes up to the body's end allow
  pub fit : MeshMarksFit b.end r
