-- The tables: a row is an entry's numbers in file order, then for each list that it holds the rows before it in that list's table.
use Rattle.std.specs.Prelude.{ℕ, ◌+◌, List, [], ◌∷◌, ◌++◌, map, length, eqb}
use Rattle.wire.specs.Test.{if}
use Rattle.layout.specs.Rows.{name_cells, joined}
use Rattle.cal3d_spec.specs.Skeletons.{Bone, Skeleton}
use Rattle.cal3d_spec.specs.Meshes.{Vertex, Submesh, Mesh}

-- the most rows of a table of cal3d; E12 raises the limit only for B3D
unfoldable pub most_rows : ℕ
most_rows = 16383

-- ---- a skeleton: 1 bones, 2 children

-- the numbers of a skeleton's tables: bones, children
abbrev pub skeleton_tables : List ℕ
skeleton_tables = 1 ∷ 2 ∷ []

-- the words of a row of table k of a skeleton; 0 if there is no such table
unfoldable pub skeleton_file_width : ℕ → ℕ
skeleton_file_width k = if (eqb k 1) 23 (if (eqb k 2) 1 0)

-- the rows of bones, n children coming before them
unfoldable pub bone_rows : ℕ → List Bone → List (List ℕ)
bone_rows n [] = []
bone_rows n (b ∷ bs) = (name_cells b.name ++ (b.numbers ++ (n ∷ []))) ∷ bone_rows (n + length b.children) bs

-- the rows of the children of bones
unfoldable pub child_rows : List Bone → List (List ℕ)
child_rows bs = joined (map (λ (b : Bone). b.children) bs)

-- the rows of table k of a skeleton; none if there is no such table
unfoldable pub skeleton_rows : ℕ → Skeleton → List (List ℕ)
skeleton_rows k t = if (eqb k 1) (bone_rows 0 t.bones) (if (eqb k 2) (child_rows t.bones) [])

-- ---- a mesh: 1 submeshes, 2 vertices, 3 maps, 4 influences, 5 springs, 6 faces

-- the numbers of a mesh's tables: submeshes, vertices, maps, influences, springs, faces
abbrev pub mesh_tables : List ℕ
mesh_tables = 1 ∷ 2 ∷ 3 ∷ 4 ∷ 5 ∷ 6 ∷ []

-- the words of a row of table k of a mesh; 0 if there is no such table
unfoldable pub mesh_file_width : ℕ → ℕ
mesh_file_width k =
    if (eqb k 1) 9
    (if (eqb k 2) 12
    (if (eqb k 3) 2
    (if (eqb k 4) 2
    (if (eqb k 5) 4
    (if (eqb k 6) 3 0)))))

-- the rows of submeshes, v vertices, g springs and f faces coming before them
unfoldable pub submesh_rows : ℕ → ℕ → ℕ → List Submesh → List (List ℕ)
submesh_rows v g f [] = []
submesh_rows v g f (x ∷ xs) =
    (x.numbers ++ (v ∷ g ∷ f ∷ [])) ∷ submesh_rows (v + length x.vertices) (g + length x.springs) (f + length x.faces) xs

-- the rows of vertices, m maps and i influences coming before them: 8 numbers, number of influences, cloth weight, m, i
unfoldable pub vertex_rows : ℕ → ℕ → List Vertex → List (List ℕ)
vertex_rows m i [] = []
vertex_rows m i (x ∷ xs) =
    (x.numbers ++ (length x.influences ∷ x.cloth ∷ m ∷ i ∷ [])) ∷ vertex_rows (m + length x.maps) (i + length x.influences) xs

-- the vertices of submeshes, in order
unfoldable pub vertices_of : List Submesh → List Vertex
vertices_of l = joined (map (λ (x : Submesh). x.vertices) l)

-- the rows of table k of a mesh; none if there is no such table
unfoldable pub mesh_rows : ℕ → Mesh → List (List ℕ)
mesh_rows k t =
    if (eqb k 1) (submesh_rows 0 0 0 t.submeshes)
    (if (eqb k 2) (vertex_rows 0 0 (vertices_of t.submeshes))
    (if (eqb k 3) (joined (map (λ (x : Vertex). x.maps) (vertices_of t.submeshes)))
    (if (eqb k 4) (joined (map (λ (x : Vertex). x.influences) (vertices_of t.submeshes)))
    (if (eqb k 5) (joined (map (λ (x : Submesh). x.springs) t.submeshes))
    (if (eqb k 6) (joined (map (λ (x : Submesh). x.faces) t.submeshes)) [])))))
