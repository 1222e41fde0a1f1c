-- What it takes to store the rows of vertices, and what the tables hold then.
use Rattle.std.specs.Prelude.{◌≡◌, ℕ, ◌+◌, ◌*◌, ◌<◌, ◌≤◌, List, length}
use Rattle.std.proofs.lemmas.List.Edits.{sets as stored}
use Rattle.layout.specs.Rows.{joined}
use Rattle.cal3d_spec.specs.Meshes.{Vertex}
use Rattle.cal3d_spec.specs.Tables.{vertex_rows}
use Rattle.cal3d_mesh_plain_spec.specs.declared.Shape.{Shape}
use Rattle.cal3d_mesh_plain_spec.specs.Plain.{vertices_at, vertices_end}
use Rattle.cal3d_mesh_plain_spec.specs.Rows.{map_rows, influence_rows}
use Rattle.cal3d_mesh_vertex_rows.specs.declared.VertexMarks.{VertexMarks}

-- no more maps, and no more influences, come before a place than bytes do
pub record VertexMarksFit (m : VertexMarks) : Type 0 where
  pub maps : m.maps ≤ m.at
  pub influences : m.influences ≤ m.at

-- the vertices of a submesh of the shape x at the marks `from`
abbrev pub vertices_from : List ℕ → Shape → VertexMarks → List Vertex
vertices_from s x from = vertices_at s x x.vertices from.at

-- the vertices stand in the file s, and tables of l2, l3 and l4 words have room for their rows
pub record VerticesFit (s : List ℕ) (x : Shape) (from : VertexMarks) (first l2 l3 l4 : ℕ) : Type 0 where
  -- the file's length is a number of four bytes
  pub small : length s < 0x100000000
  -- the vertices end in the file
  pub within : vertices_end s x x.vertices from.at ≤ length s
  -- the marks are right
  pub fit : VertexMarksFit from
  -- no more vertices come before than bytes do
  pub before : first ≤ from.at
  -- room for the vertices
  pub vertices : 12 * first + 12 * x.vertices ≤ l2
  -- room for the maps
  pub maps : 2 * from.maps + 2 * length (map_rows (vertices_from s x from)) ≤ l3
  -- room for the influences
  pub influences : 2 * from.influences + 2 * length (influence_rows (vertices_from s x from)) ≤ l4

-- each table has its rows, and the marks r are after the vertices
pub record VerticesPut (s : List ℕ) (x : Shape) (from : VertexMarks) (first : ℕ) (vertices₀ maps₀ influences₀ vertices maps influences : List ℕ)
    (r : VertexMarks) : Type 0 where
  -- the rows of vertices, from row `first` on
  pub rows2 : vertices ≡ stored vertices₀ (12 * first) (joined (vertex_rows from.maps from.influences (vertices_from s x from)))
  -- the rows of maps, after those that come before
  pub rows3 : maps ≡ stored maps₀ (2 * from.maps) (joined (map_rows (vertices_from s x from)))
  -- the rows of influences, after those that come before
  pub rows4 : influences ≡ stored influences₀ (2 * from.influences) (joined (influence_rows (vertices_from s x from)))
  -- r's place is after the vertices
  pub to : r.at ≡ vertices_end s x x.vertices from.at
  -- r counts the maps of these vertices too
  pub maps_to : r.maps ≡ from.maps + length (map_rows (vertices_from s x from))
  -- r counts the influences of these vertices too
  pub influences_to : r.influences ≡ from.influences + length (influence_rows (vertices_from s x from))
  -- the marks r are right
  pub fit : VertexMarksFit r
  -- no more vertices come before r than bytes do
  pub few : first + x.vertices ≤ r.at
