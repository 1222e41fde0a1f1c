-- The bytes of a MESH and of its VRTS, from rows of lent tables. The words of tables 4 to 7 are ms, vs, ss and ts.
use Rattle.std.specs.Prelude.{ℕ, ◌+◌, ◌/◌, ◌≤◌, List, [], ◌++◌, map, length, take, drop, get_or}
use Rattle.wire.specs.Bytes.{bytes}
use Rattle.layout.specs.Write.{write_items, write_words}
use Rattle.shared_output.specs.Writing.{chunk}
use Rattle.b3d_spec.specs.Mask.{present_words, vertex_mask}
use Rattle.b3d_spec.specs.Tags.{code}
use Rattle.b3d_spec.specs.declared.Tag.TheVariants.{MESH, VRTS}
use Rattle.b3d_spec.specs.Tables.{vertex_width, triangle_set_width, triangle_width}
use Rattle.b3d_spec.specs.Columns as columns
use Rattle.b3d_check_spec.specs.CellCounts.{end_of}
use Rattle.b3d_write_row_runs.specs.Lent.{rows_in, rows_from}
use Rattle.b3d_write_item_lists.specs.Runs.{sets_bytes}

-- the body of a VRTS: flags, sets and set size, which are the words of ms from word i on, and the vertices of the rows vs
unfoldable pub vertices_body : List ℕ → ℕ → List (List ℕ) → List ℕ
vertices_body ms i vs =
    write_words (take 3 (drop i ms)) (write_items write_words (map (present_words (vertex_mask (get_or ms i 0) (get_or ms (i + 1) 0) (get_or ms (i + 2) 0))) vs))

-- the VRTS of the three words of ms from word i on and the vertex rows vs
abbrev pub vertices_bytes : List ℕ → ℕ → List (List ℕ) → List ℕ
vertices_bytes ms i vs = chunk (code VRTS) [] (vertices_body ms i vs)

-- what `write_mesh` asks: the mesh row at word i of ms is there, with its vertices, triangle sets and triangles, from rows v, s and t on
pub record MeshThere (ms : List ℕ) (i : ℕ) (vs : List ℕ) (v : ℕ) (ss : List ℕ) (s : ℕ) (ts : List ℕ) (t : ℕ) : Type 0 where
  -- its row is there
  pub row : i + 9 ≤ length ms
  -- its vertices are
  pub vertices : v + get_or ms (i + columns.mesh_vertices) 0 ≤ length vs / vertex_width
  -- its triangle sets are
  pub sets : s + get_or ms (i + columns.mesh_triangle_sets) 0 ≤ length ss / triangle_set_width
  -- the triangles of these sets are
  pub triangles : end_of t (rows_from triangle_set_width ss s (get_or ms (i + columns.mesh_triangle_sets) 0)) ≤ length ts / triangle_width

-- the VRTS and the TRIS of the mesh row at word i of ms, its vertices, triangle sets and triangles being those from rows v, s and t on
unfoldable pub mesh_body : List ℕ → ℕ → List ℕ → ℕ → List ℕ → ℕ → List ℕ → ℕ → List ℕ
mesh_body ms i vs v ss s ts t =
    vertices_bytes ms (i + columns.mesh_flags) (rows_from vertex_width vs v (get_or ms (i + columns.mesh_vertices) 0))
    ++ sets_bytes (rows_from triangle_set_width ss s (get_or ms (i + columns.mesh_triangle_sets) 0)) (drop t (rows_in triangle_width ts))

-- the MESH of the mesh row at word i of ms, its vertices, triangle sets and triangles being those from rows v, s and t on
abbrev pub mesh_bytes : List ℕ → ℕ → List ℕ → ℕ → List ℕ → ℕ → List ℕ → ℕ → List ℕ
mesh_bytes ms i vs v ss s ts t = chunk (code MESH) (bytes (get_or ms (i + columns.mesh_brush) 0) []) (mesh_body ms i vs v ss s ts t)
