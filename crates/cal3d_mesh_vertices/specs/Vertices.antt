-- The parts of a vertex that are read one after the other, and what is counted of vertices.
use Rattle.std.specs.Prelude.{ℕ, List, map, length}
use Rattle.layout.specs.Result.{Result, accept, ◌>>=◌}
use Rattle.layout.specs.Parts.{Step, row, number}
use Rattle.layout.specs.Counted.{times}
use Rattle.layout.specs.Rows.{joined}
use Rattle.cal3d_spec.specs.Rules.{vertex_numbers, map_numbers, influences_head, influence_numbers}
use Rattle.cal3d_spec.specs.Meshes.{Vertex}

-- the numbers and the maps of the vertex at p, in a submesh with these numbers of vertices and maps
unfoldable pub read_mapped : ℕ → ℕ → ℕ → List ℕ → Result (Step (List ℕ × List (List ℕ)))
read_mapped vertices maps p s = do
  x ← row (vertex_numbers vertices) p s
  m ← times maps (row map_numbers) x.place x.left
  accept (record { value = (x.value, m.value); place = m.place; left = m.left })

-- the influences at p after their number, bone ids being below `bones`
unfoldable pub read_influences : ℕ → ℕ → List ℕ → Result (Step (List (List ℕ)))
read_influences bones p s = do
  k ← row influences_head p s
  times (number k 0) (row (influence_numbers bones)) k.place k.left

-- how many rows a list has
abbrev pub row_count : List (List ℕ) → ℕ
row_count l = length l

-- how many influences the vertex x has
abbrev pub influence_count : Vertex → ℕ
influence_count x = length x.influences

-- how many influences the vertices have together
unfoldable pub influences_in : List Vertex → ℕ
influences_in l = length (joined (map (λ (x : Vertex). x.influences) l))

-- how many maps the vertices have together
unfoldable pub maps_in : List Vertex → ℕ
maps_in l = length (joined (map (λ (x : Vertex). x.maps) l))
