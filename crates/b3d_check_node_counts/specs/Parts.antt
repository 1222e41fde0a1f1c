-- The rows of tables 4 to 10 by their words, and what code may rely on of counts and tables.
use Rattle.std.specs.Prelude.{ℕ, ◌+◌, ◌*◌, ◌≤◌, ◌<◌, List, [], get_or, eqb}
use Rattle.wire.specs.Test.{if}
use Rattle.b3d_spec.specs.Rebuild.{cut, Rows}
use Rattle.b3d_spec.specs.declared.Counts.{Counts}
use Rattle.b3d_spec.specs.Tables.{mesh_width, vertex_width, triangle_set_width, triangle_width, weight_width, key_list_width, key_width}
use Rattle.b3d_spec.specs.Columns as columns
use Rattle.b3d_check_spec.specs.CellCounts.{end_of}
use Rattle.b3d_check_rows.specs.Rows.{rows_at}

-- the rows of table k, 4 to 10, as many as a counts, the words of the tables being t₄ to t₁₀; none for another k
unfoldable pub part_rows : Counts → List ℕ → List ℕ → List ℕ → List ℕ → List ℕ → List ℕ → List ℕ → Rows
part_rows a t₄ t₅ t₆ t₇ t₈ t₉ t₁₀ k =
    if (eqb k 4) (cut mesh_width a.meshes t₄)
    (if (eqb k 5) (cut vertex_width a.vertices t₅)
    (if (eqb k 6) (cut triangle_set_width a.sets t₆)
    (if (eqb k 7) (cut triangle_width a.triangles t₇)
    (if (eqb k 8) (cut weight_width a.weights t₈)
    (if (eqb k 9) (cut key_list_width a.lists t₉)
    (if (eqb k 10) (cut key_width a.keys t₁₀) []))))))

-- no count of n is above that of a
pub record Below (n a : Counts) : Type 0 where
  pub nodes : n.nodes ≤ a.nodes
  pub meshes : n.meshes ≤ a.meshes
  pub vertices : n.vertices ≤ a.vertices
  pub sets : n.sets ≤ a.sets
  pub triangles : n.triangles ≤ a.triangles
  pub weights : n.weights ≤ a.weights
  pub lists : n.lists ≤ a.lists
  pub keys : n.keys ≤ a.keys

-- the mesh that comes after the counts n is there, and with what its row says that it has no count passes a
pub record MeshEnds (n a : Counts) (t₄ t₆ : List ℕ) : Type 0 where
  -- one more mesh is counted by a
  pub one : n.meshes < a.meshes
  -- its vertices are
  pub vertices : n.vertices + get_or t₄ (mesh_width * n.meshes + columns.mesh_vertices) 0 ≤ a.vertices
  -- its triangle sets are
  pub sets : n.sets + get_or t₄ (mesh_width * n.meshes + columns.mesh_triangle_sets) 0 ≤ a.sets
  -- the triangles of these sets are
  pub triangles : end_of n.triangles (rows_at triangle_set_width n.sets (get_or t₄ (mesh_width * n.meshes + columns.mesh_triangle_sets) 0) t₆) ≤ a.triangles
