-- The rows that vertices and submeshes have in the tables of what they hold.
use Rattle.std.specs.Prelude.{List, map, ℕ}
use Rattle.layout.specs.Rows.{joined}
use Rattle.cal3d_spec.specs.Meshes.{Vertex, Submesh}

-- the rows of the maps of vertices
unfoldable pub map_rows : List Vertex → List (List ℕ)
map_rows l = joined (map (λ (x : Vertex). x.maps) l)

-- the rows of the influences of vertices
unfoldable pub influence_rows : List Vertex → List (List ℕ)
influence_rows l = joined (map (λ (x : Vertex). x.influences) l)

-- the rows of the springs of submeshes
unfoldable pub spring_rows : List Submesh → List (List ℕ)
spring_rows l = joined (map (λ (x : Submesh). x.springs) l)

-- the rows of the faces of submeshes
unfoldable pub face_rows : List Submesh → List (List ℕ)
face_rows l = joined (map (λ (x : Submesh). x.faces) l)
