-- A mesh file: from bytes to submeshes, or to the first refusal in reading order (1, 2, 5, 6, 7). Bone ids are below a count that the
-- caller gives, and not negative.
use Rattle.std.specs.Prelude.{ℕ, zero, suc, List, [], ◌∷◌, length, eqb}
use Rattle.layout.specs.Result.{Result, accept, check, ◌>>=◌}
use Rattle.layout.specs.Parts.{Step, row, number}
use Rattle.layout.specs.Counted.{times, at_end}
use Rattle.layout.specs.Rows.{size_fits}
use Rattle.layout.specs.Rules.{any}
use Rattle.layout.specs.Refusals as refusals
use Rattle.cal3d_spec.specs.Rules.{mesh_magic, mesh_head, named_bones, submesh_numbers, vertex_numbers, map_numbers, influences_head, influence_numbers, cloth_numbers, spring_numbers, face_numbers}

-- a vertex: its 8 numbers, its maps, its influences, its cloth weight (0 where there is none)
pub record Vertex : Type 0 where
  pub numbers : List ℕ
  pub maps : List (List ℕ)
  pub influences : List (List ℕ)
  pub cloth : ℕ

-- a submesh: its 6 numbers, its vertices, springs and faces
pub record Submesh : Type 0 where
  pub numbers : List ℕ
  pub vertices : List Vertex
  pub springs : List (List ℕ)
  pub faces : List (List ℕ)

-- a mesh: the header's 2 numbers, and the submeshes
pub record Mesh : Type 0 where
  pub head : List ℕ
  pub submeshes : List Submesh

-- a vertex's cloth weight at p: stored only if the submesh has springs, else 0
unfoldable pub read_cloth : ℕ → ℕ → List ℕ → Result (Step ℕ)
read_cloth zero p s = accept (record { value = 0; place = p; left = s })
read_cloth (suc springs) p s = do
  w ← row cloth_numbers p s
  accept (record { value = number w 0; place = w.place; left = w.left })

-- the vertex at p of a submesh with these numbers of vertices, springs and maps, bone ids being below `bones`
unfoldable pub read_vertex : ℕ → ℕ → ℕ → ℕ → ℕ → List ℕ → Result (Step Vertex)
read_vertex bones vertices springs maps p s = do
  x ← row (vertex_numbers vertices) p s
  m ← times maps (row map_numbers) x.place x.left
  k ← row influences_head m.place m.left
  i ← times (number k 0) (row (influence_numbers bones)) k.place k.left
  w ← read_cloth springs i.place i.left
  accept (record { value = record { numbers = x.value; maps = m.value; influences = i.value; cloth = w.value }; place = w.place; left = w.left })

-- the submesh at p, bone ids being below `bones`: its numbers, its vertices, its springs, its faces
unfoldable pub read_submesh : ℕ → ℕ → List ℕ → Result (Step Submesh)
read_submesh bones p s = do
  x ← row submesh_numbers p s
  v ← times (number x 1) (read_vertex bones (number x 1) (number x 4) (number x 5)) x.place x.left
  g ← times (number x 4) (row (spring_numbers (number x 1))) v.place v.left
  f ← times (number x 2) (row (face_numbers (number x 1))) g.place g.left
  accept (record { value = record { numbers = x.value; vertices = v.value; springs = g.value; faces = f.value }; place = f.place; left = f.left })

-- the mesh after the magic: the header's numbers, as many submeshes as they say, and nothing more
unfoldable pub mesh_from : ℕ → ℕ → List ℕ → Result Mesh
mesh_from bones p s = do
  h ← row mesh_head p s
  l ← times (number h 1) (read_submesh bones) h.place h.left
  _ ← at_end l.place l.left
  accept (record { head = h.value; submeshes = l.value })

-- the mesh of the file s, or the first of its refusals 1 to 7; `bones` is the count that the caller gives
unfoldable pub mesh : ℕ → List ℕ → Result Mesh
mesh bones s = do
  _ ← check (size_fits (length s)) refusals.file_size 0
  m ← row (any ∷ []) 0 s
  _ ← check (eqb (number m 0) mesh_magic) refusals.first_tag 0
  mesh_from (named_bones bones) m.place m.left
