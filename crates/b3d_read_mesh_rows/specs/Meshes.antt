-- The vertices and the own row of a MESH.
use Rattle.std.specs.Prelude.{◌≡◌, ℕ, ◌-◌, ◌≤◌, List, [], ◌∷◌, length}
use Rattle.std.proofs.lemmas.List.Edits.{sets as stored}
use Rattle.wire.specs.Cursors.{left}
use Rattle.wire.specs.declared.Cursor.{Cursor}
use Rattle.b3d_spec.specs.Scene.{Mesh}
use Rattle.b3d_spec_plain_rows.specs.Plain.{shape_of, plain_mesh}
use Rattle.b3d_chunk_walk.specs.Seeks.{ahead, inner}
use Rattle.b3d_read_item_rows.specs.Items.{shape_rows}
use Rattle.b3d_read_mesh_rows.specs.declared.Vertices.{Vertices}
use Rattle.b3d_read_mesh_rows.specs.declared.Added.{Added}

-- the rows of table 5 for a MESH with header place p and body b: those of its first VRTS
unfoldable pub vertices_in : ℕ → List ℕ → List (List ℕ)
vertices_in p b = shape_rows (shape_of (inner p b))

-- what `find_shape` promises of its answer r, by the first VRTS from the cursor c on; all are 0 where there is none
pub record ShapeFound (s : List ℕ) (c : Cursor) (r : Vertices) : Type 0 where
  -- its flags
  pub flags_are : (shape_of (ahead s c)).flags ≡ r.flags
  -- its sets
  pub sets_are : (shape_of (ahead s c)).sets ≡ r.sets
  -- its set size
  pub size_are : (shape_of (ahead s c)).size ≡ r.size
  -- how many vertices it has
  pub count_is : length (shape_of (ahead s c)).items ≡ r.count
  -- there are no more vertices than bytes
  pub few : r.count ≤ c.end - c.at

-- the row of a mesh m of node i, its first vertex being number v and its first triangle set number t
unfoldable pub mesh_cells : ℕ → ℕ → ℕ → Mesh → List ℕ
mesh_cells i v t m = i ∷ m.brush ∷ m.flags ∷ m.sets ∷ m.size ∷ v ∷ length m.vertices ∷ t ∷ length m.triangle_sets ∷ []

-- what `store_mesh` promises: of the table `out`, the table `put` after it, and its answer r
pub record MeshPut (s : List ℕ) (p : ℕ) (b : Cursor) (node vertices sets base : ℕ) (out put : List ℕ) (r : Added) : Type 0 where
  -- the row of the mesh is stored from cell `base` on, and no other cell is changed
  pub stores : put ≡ stored out base (mesh_cells node vertices sets (plain_mesh p (left b s)))
  -- how many vertices the mesh has
  pub vertices_are : r.vertices ≡ length (plain_mesh p (left b s)).vertices
  -- how many triangle sets the mesh has
  pub sets_are : r.sets ≡ length (plain_mesh p (left b s)).triangle_sets
  -- there are no more vertices than bytes
  pub few_vertices : r.vertices ≤ b.end - b.at
  -- there are no more sets than bytes
  pub few_sets : r.sets ≤ b.end - b.at
