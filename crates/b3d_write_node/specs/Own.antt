-- What the body of a NODE holds before the nodes below it, from rows of lent tables, and what must be there for it. The words of tables 3 to 10 are ds, ms,
-- vs, ss, ts, ws, ls and ks; ns are the bytes that hold the names.
use Rattle.std.specs.Prelude.{◌≡◌, ℕ, ◌+◌, ◌*◌, ◌/◌, ◌<◌, ◌≤◌, List, [], length, get_or, eqb}
use Rattle.wire.specs.Test.{if}
use Rattle.b3d_spec.specs.Encode.{kind_chunks, write_node}
use Rattle.b3d_spec.specs.Rebuild.{Rows, kind_from, data_from}
use Rattle.b3d_spec.specs.Tags.{write_chunks}
use Rattle.b3d_spec.specs.declared.Counts.{Counts}
use Rattle.b3d_spec.specs.Tables.{node_width, mesh_width, vertex_width, triangle_set_width, triangle_width, weight_width, key_list_width, key_width}
use Rattle.b3d_spec.specs.Columns as columns
use Rattle.b3d_write_row_runs.specs.Lent.{rows_in}
use Rattle.b3d_write_materials.specs.Named.{NameThere}
use Rattle.b3d_write_mesh.specs.Mesh.{MeshThere}
use Rattle.b3d_write_animation.specs.Animation.{move_chunks, MovesThere}

-- the rows of table k, 3 to 10, each table given by its words
unfoldable pub table_rows : List ℕ → List ℕ → List ℕ → List ℕ → List ℕ → List ℕ → List ℕ → List ℕ → Rows
table_rows ds ms vs ss ts ws ls ks k =
    if (eqb k 3) (rows_in node_width ds)
    (if (eqb k 4) (rows_in mesh_width ms)
    (if (eqb k 5) (rows_in vertex_width vs)
    (if (eqb k 6) (rows_in triangle_set_width ss)
    (if (eqb k 7) (rows_in triangle_width ts)
    (if (eqb k 8) (rows_in weight_width ws)
    (if (eqb k 9) (rows_in key_list_width ls)
    (if (eqb k 10) (rows_in key_width ks) [])))))))

-- ---- the parts

-- the MESH or BONE of a node of kind k and count c that comes after the counts n; empty for a pivot
unfoldable pub kind_bytes : List ℕ → List ℕ → List ℕ → List ℕ → List ℕ → Counts → ℕ → ℕ → List ℕ
kind_bytes ms vs ss ts ws n k c = write_chunks (kind_chunks (kind_from (table_rows [] ms vs ss ts ws [] []) n k c) [])

-- the kind's chunk, the KEYS and the ANIM of the node whose row begins at word i of ds and which comes after the counts n
unfoldable pub parts_bytes : List ℕ → ℕ → List ℕ → List ℕ → List ℕ → List ℕ → List ℕ → List ℕ → List ℕ → Counts → List ℕ
parts_bytes ds i ms vs ss ts ws ls ks n =
    write_chunks (kind_chunks (kind_from (table_rows [] ms vs ss ts ws [] []) n (get_or ds (i + columns.node_kind) 0) (get_or ds (i + columns.node_count) 0)) (move_chunks ds i ls ks n))

-- all that the body of the node after the counts n holds before the nodes below it
unfoldable pub own_bytes : List ℕ → List ℕ → List ℕ → List ℕ → List ℕ → List ℕ → List ℕ → List ℕ → List ℕ → Counts → List ℕ
own_bytes ns ds ms vs ss ts ws ls ks n = write_node (data_from ns (table_rows ds ms vs ss ts ws ls ks) (get_or (rows_in node_width ds) n.nodes []) n) []

-- ---- what must be there

-- what `write_kind` asks: the rows that kind k and count c name are there after the counts n
pub record KindThere (ms vs ss ts ws : List ℕ) (n : Counts) (k c : ℕ) : Type 0 where
  -- for a mesh its row and all that it names
  pub mesh : k ≡ 1 → MeshThere ms (mesh_width * n.meshes) vs n.vertices ss n.sets ts n.triangles
  -- for a bone its weights
  pub bone : k ≡ 2 → n.weights + c ≤ length ws / weight_width

-- what `write_own_chunks` asks of the node after the counts n
pub record OwnThere (ns ds ms vs ss ts ws ls ks : List ℕ) (n : Counts) : Type 0 where
  -- its row is there
  pub row : n.nodes < length ds / node_width
  -- its name is in ns
  pub name : NameThere ns ds (node_width * n.nodes)
  -- the rows that its kind and count name are there
  pub kind : KindThere ms vs ss ts ws n (get_or ds (node_width * n.nodes + columns.node_kind) 0) (get_or ds (node_width * n.nodes + columns.node_count) 0)
  -- its key lists and keys are there
  pub moves : MovesThere ls ks n

-- no count of n is past the rows of its table
pub record Counted (vs ss ts ws ls ks : List ℕ) (n : Counts) : Type 0 where
  pub vertices : n.vertices ≤ length vs / vertex_width
  pub sets : n.sets ≤ length ss / triangle_set_width
  pub triangles : n.triangles ≤ length ts / triangle_width
  pub weights : n.weights ≤ length ws / weight_width
  pub lists : n.lists ≤ length ls / key_list_width
  pub keys : n.keys ≤ length ks / key_width
