-- What a mesh row says by itself, and what must be there of a mesh.
use Rattle.std.specs.Prelude.{ℕ, ◌≤◌, ◌<◌, Bool, ◌&&◌, List, length, take, get_or, leb, ltb, eqb}
use Rattle.layout.specs.Rules.{holds}
use Rattle.b3d_spec.specs.Rules.{vertex_flags, sets, set_size, brush_id}
use Rattle.b3d_spec.specs.declared.Counts.{Counts}
use Rattle.b3d_spec.specs.Columns as columns
use Rattle.b3d_check_spec.specs.Check.{groups_valid, set_valid}
use Rattle.b3d_check_spec.specs.Rooms.{KindRoom}

-- mesh row x is of node number `node`, has a brush that is NONE or below `brushes`, numbers in their range, and `first` as its first vertex
unfoldable pub mesh_row_here : ℕ → ℕ → ℕ → List ℕ → Bool
mesh_row_here brushes node first x =
    eqb (get_or x columns.mesh_node 0) node
    && (holds (brush_id brushes) (get_or x columns.mesh_brush 0)
    && (holds vertex_flags (get_or x columns.mesh_flags 0)
    && (holds sets (get_or x columns.mesh_sets 0) && (holds set_size (get_or x columns.mesh_set_size 0) && eqb (get_or x columns.mesh_first_vertex 0) first))))

-- the triangle sets of mesh row x, which is number i, are sound: at least one, the first of ss, from number `first` on; their triangles are those of ts, from
-- number r on
unfoldable pub mesh_sets : ℕ → ℕ → ℕ → ℕ → List ℕ → List (List ℕ) → List (List ℕ) → Bool
mesh_sets brushes i first r x ss ts =
    eqb (get_or x columns.mesh_first_triangle_set 0) first
    && (ltb 0 (get_or x columns.mesh_triangle_sets 0) && (leb (get_or x columns.mesh_triangle_sets 0) (length ss)
    && groups_valid (set_valid brushes (get_or x columns.mesh_vertices 0) i) r (take (get_or x columns.mesh_triangle_sets 0) ss) ts))

-- what `mesh_valid` asks: after the counts n a mesh comes, of those that a counts, and tables 4 to 7 have the rows that a counts
pub record MeshAfter (n a : Counts) (words₄ words₅ words₆ words₇ : ℕ) : Type 0 where
  -- one more mesh is counted
  pub one : n.meshes < a.meshes
  -- the vertices before it are counted
  pub vertices : n.vertices ≤ a.vertices
  -- the triangle sets before it are counted
  pub sets : n.sets ≤ a.sets
  -- the triangles before it are counted
  pub triangles : n.triangles ≤ a.triangles
  -- the words of table 8, which is not looked at
  pub words₈ : ℕ
  -- the tables have the counted rows
  pub rooms : KindRoom a words₄ words₅ words₆ words₇ words₈
