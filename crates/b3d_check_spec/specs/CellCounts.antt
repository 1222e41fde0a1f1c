-- The running counts after a node and the bone limit that it hands down, from cells alone, as code has them.
use Rattle.std.specs.Prelude.{ℕ, ◌+◌, ◌-◌, List, [], ◌∷◌, length, take, drop, get_or, eqb}
use Rattle.wire.specs.Test.{if}
use Rattle.b3d_spec.specs.Rebuild.{owned_by, Rows}
use Rattle.b3d_spec.specs.declared.Counts.{Counts}
use Rattle.b3d_spec.specs.Columns as columns

-- the count r and cell 3 of each row: the number behind the items of these rows
unfoldable pub end_of : ℕ → List (List ℕ) → ℕ
end_of r [] = r
end_of r (x ∷ xs) = end_of (r + get_or x columns.group_count 0) xs

-- the counts n after the mesh with row x, its triangle sets being the first of ss
unfoldable pub mesh_counts : List ℕ → List (List ℕ) → Counts → Counts
mesh_counts x ss n =
    record {
      nodes = n.nodes;
      meshes = n.meshes + 1;
      vertices = n.vertices + get_or x columns.mesh_vertices 0;
      sets = n.sets + get_or x columns.mesh_triangle_sets 0;
      triangles = end_of n.triangles (take (get_or x columns.mesh_triangle_sets 0) ss);
      weights = n.weights;
      lists = n.lists;
      keys = n.keys;
    }

-- the counts n after c weights
unfoldable pub weight_counts : ℕ → Counts → Counts
weight_counts c n =
    record {
      nodes = n.nodes;
      meshes = n.meshes;
      vertices = n.vertices;
      sets = n.sets;
      triangles = n.triangles;
      weights = n.weights + c;
      lists = n.lists;
      keys = n.keys;
    }

-- the counts n after the mesh or weights that kind, first and count in y name
unfoldable pub kind_counts : Rows → Counts → List ℕ → Counts
kind_counts R n y =
    if (eqb (get_or y 0 0) 1) (mesh_counts (get_or (drop n.meshes (R 4)) 0 []) (drop n.sets (R 6)) n)
    (if (eqb (get_or y 0 0) 2) (weight_counts (get_or y 2 0) n) n)

-- the counts n after one node more, its key lists ending at number l and its keys at number k
unfoldable pub node_counts : ℕ → ℕ → Counts → Counts
node_counts l k n =
    record {
      nodes = n.nodes + 1;
      meshes = n.meshes;
      vertices = n.vertices;
      sets = n.sets;
      triangles = n.triangles;
      weights = n.weights;
      lists = l;
      keys = k;
    }

-- the counts n after node row x: its kind and its key lists
unfoldable pub cell_counts : Rows → List ℕ → Counts → Counts
cell_counts R x n =
    let ls = owned_by n.nodes (drop n.lists (R 9)) in
    node_counts (n.lists + length ls) (end_of n.keys ls) (kind_counts R n (drop columns.node_kind x))

-- the bone limit that node row x hands down: the vertices of its own mesh if it has an ANIM, else the limit `told` that it got
unfoldable pub cell_bone_limit : ℕ → Rows → List ℕ → Counts → ℕ
cell_bone_limit told R x n = if (eqb (get_or x columns.node_anim 0) 1) ((cell_counts R x n).vertices - n.vertices) told
