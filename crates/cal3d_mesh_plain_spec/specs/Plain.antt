-- A mesh by the file's own bytes, without any rule: entries by the counts that stand before them. A number that is not there is 0.
use Rattle.std.specs.Prelude.{ℕ, zero, suc, ◌+◌, ◌*◌, List, [], ◌∷◌}
use Rattle.wire.specs.Bytes.{word_at}
use Rattle.shared_table_words.specs.Words.{words_at}
use Rattle.cal3d_spec.specs.Meshes.{Vertex, Submesh, Mesh}
use Rattle.cal3d_mesh_plain_spec.specs.declared.Shape.{Shape}

-- the given number of entries from place p on, each where the one before it ends: `entry` gives the one at a place, `next` its end
unfoldable pub entries_at : {A : Type 0} → (ℕ → A) → (ℕ → ℕ) → ℕ → ℕ → List A
entries_at entry next zero p = []
entries_at entry next (suc n) p = entry p ∷ entries_at entry next n (next p)

-- the place after the given number of entries from p on, `next` giving the end of each
unfoldable pub end_after : (ℕ → ℕ) → ℕ → ℕ → ℕ
end_after next zero p = p
end_after next (suc n) p = end_after next n (next p)

-- n rows of `width` words of the file s from p on
unfoldable pub word_rows : ℕ → List ℕ → ℕ → ℕ → List (List ℕ)
word_rows width s n p = entries_at (words_at width s) (λ q. q + 4 * width) n p

-- ---- a vertex

-- the place of a vertex's number of influences, the vertex standing at p with this number of maps
abbrev pub influences_place : ℕ → ℕ → ℕ
influences_place maps p = p + 32 + 8 * maps

-- the number of influences of the vertex at p with this number of maps
abbrev pub influences_of : List ℕ → ℕ → ℕ → ℕ
influences_of s maps p = word_at s (influences_place maps p)

-- the cloth weight at p, after a vertex's influences; 0 if the submesh has no springs
unfoldable pub cloth_at : List ℕ → ℕ → ℕ → ℕ
cloth_at s zero p = 0
cloth_at s (suc springs) p = word_at s p

-- the bytes of a vertex's cloth weight; none if the submesh has no springs
unfoldable pub cloth_bytes : ℕ → ℕ
cloth_bytes zero = 0
cloth_bytes (suc springs) = 4

-- the place of the cloth weight of the vertex at p with this number of maps
abbrev pub cloth_place : List ℕ → ℕ → ℕ → ℕ
cloth_place s maps p = influences_place maps p + 4 + 8 * influences_of s maps p

-- the vertex at p, in a submesh with these numbers of springs and maps
unfoldable pub vertex_at : List ℕ → ℕ → ℕ → ℕ → Vertex
vertex_at s springs maps p = record {
  numbers = words_at 8 s p;
  maps = word_rows 2 s maps (p + 32);
  influences = word_rows 2 s (influences_of s maps p) (influences_place maps p + 4);
  cloth = cloth_at s springs (cloth_place s maps p);
}

-- the place after the vertex at p, in a submesh with these numbers of springs and maps
unfoldable pub vertex_end : List ℕ → ℕ → ℕ → ℕ → ℕ
vertex_end s springs maps p = cloth_place s maps p + cloth_bytes springs

-- ---- a submesh

-- the counts of the submesh at p, after its material thread id; lod steps have no entries
unfoldable pub shape_at : List ℕ → ℕ → Shape
shape_at s p = record { vertices = word_at s (p + 4); faces = word_at s (p + 8); springs = word_at s (p + 16); maps = word_at s (p + 20) }

-- n vertices of a submesh of the shape x from p on
unfoldable pub vertices_at : List ℕ → Shape → ℕ → ℕ → List Vertex
vertices_at s x n p = entries_at (vertex_at s x.springs x.maps) (vertex_end s x.springs x.maps) n p

-- the place after n vertices of a submesh of the shape x from p on
unfoldable pub vertices_end : List ℕ → Shape → ℕ → ℕ → ℕ
vertices_end s x n p = end_after (vertex_end s x.springs x.maps) n p

-- the place of the springs of the submesh at p
abbrev pub springs_place : List ℕ → ℕ → ℕ
springs_place s p = vertices_end s (shape_at s p) (shape_at s p).vertices (p + 24)

-- the place of the faces of the submesh at p
abbrev pub faces_place : List ℕ → ℕ → ℕ
faces_place s p = springs_place s p + 16 * (shape_at s p).springs

-- the submesh at p
unfoldable pub submesh_at : List ℕ → ℕ → Submesh
submesh_at s p = record {
  numbers = words_at 6 s p;
  vertices = vertices_at s (shape_at s p) (shape_at s p).vertices (p + 24);
  springs = word_rows 4 s (shape_at s p).springs (springs_place s p);
  faces = word_rows 3 s (shape_at s p).faces (faces_place s p);
}

-- the place after the submesh at p
unfoldable pub submesh_end : List ℕ → ℕ → ℕ
submesh_end s p = faces_place s p + 12 * (shape_at s p).faces

-- ---- a file

-- n submeshes from p on
unfoldable pub submeshes_at : List ℕ → ℕ → ℕ → List Submesh
submeshes_at s n p = entries_at (submesh_at s) (submesh_end s) n p

-- the place after n submeshes from p on
unfoldable pub submeshes_end : List ℕ → ℕ → ℕ → ℕ
submeshes_end s n p = end_after (submesh_end s) n p

-- the mesh of the file s: after the magic the header's numbers, and as many submeshes as they say
unfoldable pub plain_mesh : List ℕ → Mesh
plain_mesh s = record { head = words_at 2 s 4; submeshes = submeshes_at s (word_at s 8) 12 }

-- the place after the mesh of the file s
unfoldable pub mesh_end : List ℕ → ℕ
mesh_end s = submeshes_end s (word_at s 8) 12
