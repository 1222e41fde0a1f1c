-- Worked files: one list of skeletons and one of meshes, each under one statement, proved by computing; then what the readers answer and
-- leave in lent tables.
use mathlib.Core.Path.{◌≡◌, refl}
use Prim.Native.Nat.{ℕ, ◌+◌}
use mathlib.Core.List.{List, [], ◌∷◌, ◌++◌, map}
use lib.ListN.{replicate, take}
use Rattle.layout.specs.Result.{Result, accept, reject}
use Rattle.layout.specs.Rules.{NONE}
use Rattle.layout.specs.Rows.{joined}
use Rattle.layout.specs.Write.{write_words}
use Rattle.cal3d_spec.specs.Rules.{skeleton_magic, mesh_magic}
use Rattle.cal3d_spec.specs.Tables.{skeleton_tables, skeleton_rows, mesh_tables, mesh_rows}
use Rattle.cal3d_spec.specs.Answers.{judge_skeleton, read_skeleton, skeleton_room, skeleton_answer, skeleton_table, judge_mesh, read_mesh, mesh_answer, mesh_table}
use Rattle.cal3d_spec.specs.Skeletons.{Skeleton}
use Rattle.cal3d_spec.specs.Meshes.{Mesh}
use Rattle.cal3d_spec.specs.declared.SkeletonAnswer.{SkeletonAnswer}
use Rattle.cal3d_spec.specs.declared.MeshAnswer.{MeshAnswer}
use Rattle.cal3d_spec.proofs.Computing.{computing}

-- what is told of a file: 0, 0 and its tables' words, or the refusal and its place
abbrev told_skeleton : Result Skeleton → List ℕ
told_skeleton (accept t) = 0 ∷ 0 ∷ joined (map (λ (k : ℕ). joined (skeleton_rows k t)) skeleton_tables)
told_skeleton (reject n p) = n ∷ p ∷ []

abbrev told_mesh : Result Mesh → List ℕ
told_mesh (accept t) = 0 ∷ 0 ∷ joined (map (λ (k : ℕ). joined (mesh_rows k t)) mesh_tables)
told_mesh (reject n p) = n ∷ p ∷ []

-- ---- skeletons

-- so many bones, and then these bytes
abbrev skeleton_of : ℕ → List ℕ → List ℕ
skeleton_of bones r = write_words (skeleton_magic ∷ 1300 ∷ bones ∷ 1 ∷ 2 ∷ 3 ∷ []) r

-- a bone: its name, its parent, its list
abbrev bone_of : ℕ → List ℕ → ℕ → ℕ → List ℕ → List ℕ → List ℕ
bone_of size name parent count children r =
    write_words (size ∷ []) (name ++ write_words (replicate 14 9) (write_words (parent ∷ 4 ∷ 5 ∷ 6 ∷ 7 ∷ count ∷ []) (write_words children r)))

abbrev Hip : List ℕ
Hip = 72 ∷ 105 ∷ 112 ∷ []

-- bone 0 "Hip", the parent of bone 1, which has no name
abbrev pair : List ℕ
pair = skeleton_of 2 (bone_of 3 Hip NONE 1 (1 ∷ []) (bone_of 0 [] 0 0 [] []))

pub skeletons_told : map (λ (s : List ℕ). told_skeleton (judge_skeleton s))
    (skeleton_of 0 []
    ∷ pair
    ∷ take 11 pair
    ∷ write_words (mesh_magic ∷ 1300 ∷ 0 ∷ 1 ∷ 2 ∷ 3 ∷ []) []
    ∷ take 23 pair
    ∷ write_words (skeleton_magic ∷ 1299 ∷ 0 ∷ 1 ∷ 2 ∷ 3 ∷ []) []
    ∷ skeleton_of NONE []
    ∷ take 27 pair
    ∷ take 30 pair
    ∷ take 110 pair
    ∷ take 114 pair
    ∷ skeleton_of 1 (bone_of NONE [] NONE 0 [] [])
    ∷ skeleton_of 1 (bone_of 0 [] 1 0 [] [])
    ∷ skeleton_of 1 (bone_of 0 [] NONE NONE [] [])
    ∷ skeleton_of 1 (bone_of 0 [] NONE 1 (1 ∷ []) [])
    ∷ (pair ++ (0 ∷ []))
    ∷ skeleton_of 2147483647 []
    ∷ skeleton_of 1 (bone_of 0 [] 0 1 (0 ∷ []) [])
    ∷ skeleton_of 1 (bone_of 0 [] NONE 1 (0 ∷ []) [])
    ∷ skeleton_of 3 (bone_of 0 [] 2 1 (1 ∷ []) (bone_of 0 [] 0 1 (2 ∷ []) (bone_of 0 [] 1 1 (0 ∷ []) [])))
    ∷ skeleton_of 3 (bone_of 0 [] NONE 2 (1 ∷ 2 ∷ []) (bone_of 0 [] 0 1 (2 ∷ []) (bone_of 0 [] 0 0 [] [])))
    ∷ skeleton_of 3 (bone_of 0 [] 2 0 [] (bone_of 0 [] 2 0 [] (bone_of 0 [] NONE 2 (1 ∷ 0 ∷ []) [])))
    ∷ skeleton_of 2 (bone_of 3 Hip NONE 0 [] (bone_of 0 [] 0 0 [] []))
    ∷ skeleton_of 2 (bone_of 3 Hip NONE 2 (1 ∷ 1 ∷ []) (bone_of 0 [] 0 0 [] []))
    ∷ skeleton_of 2 (bone_of 3 Hip NONE 1 (1 ∷ []) (bone_of 0 [] NONE 0 [] []))
    ∷ [])
    ≡ (0 ∷ 0 ∷ [])
    ∷ (0 ∷ 0 ∷ 28 ∷ 3 ∷ replicate 14 9 ++ (NONE ∷ 4 ∷ 5 ∷ 6 ∷ 7 ∷ 1 ∷ 0 ∷ 119 ∷ 0 ∷ replicate 14 9 ++ (0 ∷ 4 ∷ 5 ∷ 6 ∷ 7 ∷ 0 ∷ 1 ∷ 1 ∷ [])))
    ∷ (1 ∷ 0 ∷ [])
    ∷ (2 ∷ 0 ∷ [])
    ∷ (5 ∷ 4 ∷ [])
    ∷ (6 ∷ 4 ∷ [])
    ∷ (6 ∷ 8 ∷ [])
    ∷ (5 ∷ 24 ∷ [])
    ∷ (5 ∷ 28 ∷ [])
    ∷ (5 ∷ 31 ∷ [])
    ∷ (5 ∷ 111 ∷ [])
    ∷ (6 ∷ 24 ∷ [])
    ∷ (7 ∷ 84 ∷ [])
    ∷ (6 ∷ 104 ∷ [])
    ∷ (7 ∷ 108 ∷ [])
    ∷ (5 ∷ 199 ∷ [])
    ∷ (5 ∷ 24 ∷ [])
    ∷ (16 ∷ 24 ∷ [])
    ∷ (16 ∷ 24 ∷ [])
    ∷ (16 ∷ 24 ∷ [])
    ∷ (16 ∷ 204 ∷ [])
    ∷ (0 ∷ 0 ∷ 28 ∷ 0 ∷ replicate 14 9 ++ (2 ∷ 4 ∷ 5 ∷ 6 ∷ 7 ∷ 0 ∷ 0 ∷ 112 ∷ 0 ∷ replicate 14 9 ++ (2 ∷ 4 ∷ 5 ∷ 6 ∷ 7 ∷ 0 ∷ 0 ∷ 196 ∷ 0 ∷ replicate 14 9 ++ (NONE ∷ 4 ∷ 5 ∷ 6 ∷ 7 ∷ 2 ∷ 0 ∷ 1 ∷ 0 ∷ []))))
    ∷ (16 ∷ 111 ∷ [])
    ∷ (16 ∷ 119 ∷ [])
    ∷ (16 ∷ 115 ∷ [])
    ∷ []
unfolding computing
skeletons_told = refl

-- lent tables of so many words, each of them 77
abbrev lent : ℕ → List ℕ
lent n = replicate n 77

-- what is answered and left, for a file and tables of so many words
abbrev read_as : ℕ → ℕ → List ℕ → SkeletonAnswer × List ℕ × List ℕ
read_as a b s = let o = read_skeleton (skeleton_room a b) s in (skeleton_answer o, skeleton_table 1 o (lent a), skeleton_table 2 o (lent b))

abbrev refused_skeleton : ℕ → ℕ → SkeletonAnswer
refused_skeleton n p = record { number = n; place = p; head = 0 ∷ 0 ∷ 0 ∷ 0 ∷ 0 ∷ []; counts = 0 ∷ 0 ∷ [] }

-- words past the last row stay; a table too short, the lower first, or a file that is refused, leaves all
pub skeletons_read : map (λ (f : List ℕ → SkeletonAnswer × List ℕ × List ℕ). f pair) (read_as 48 3 ∷ read_as 45 0 ∷ read_as 46 0 ∷ [])
    ≡ (
      record { number = 0; place = 0; head = 1300 ∷ 2 ∷ 1 ∷ 2 ∷ 3 ∷ []; counts = 2 ∷ 1 ∷ [] },
      28 ∷ 3 ∷ replicate 14 9 ++ (NONE ∷ 4 ∷ 5 ∷ 6 ∷ 7 ∷ 1 ∷ 0 ∷ 119 ∷ 0 ∷ replicate 14 9 ++ (0 ∷ 4 ∷ 5 ∷ 6 ∷ 7 ∷ 0 ∷ 1 ∷ 77 ∷ 77 ∷ [])),
      1 ∷ 77 ∷ 77 ∷ [],
    )
    ∷ (refused_skeleton 11 1, lent 45, [])
    ∷ (refused_skeleton 11 2, lent 46, [])
    ∷ []
unfolding computing
skeletons_read = refl

-- ---- meshes, of a skeleton with 2 bones

abbrev mesh_of : ℕ → List ℕ → List ℕ
mesh_of submeshes r = write_words (mesh_magic ∷ 700 ∷ submeshes ∷ []) r

-- one submesh with one vertex, one spring, one map, one influence, one face; this collapse id, bone and last vertex id
abbrev cloth_of : ℕ → ℕ → ℕ → List ℕ
cloth_of collapse bone last =
    mesh_of 1 (write_words (NONE ∷ 1 ∷ 1 ∷ 0 ∷ 1 ∷ 1 ∷ []) (write_words (8 ∷ 8 ∷ 8 ∷ 8 ∷ 8 ∷ 8 ∷ collapse ∷ 0 ∷ 5 ∷ 6 ∷ 1 ∷ bone ∷ 7 ∷ 3 ∷ []) (write_words (0 ∷ 0 ∷ 1 ∷ 2 ∷ 0 ∷ 0 ∷ last ∷ []) [])))

-- the same vertex without springs: no cloth weight
abbrev plain : List ℕ
plain = mesh_of 1 (write_words (NONE ∷ 1 ∷ 0 ∷ 0 ∷ 0 ∷ 1 ∷ []) (write_words (8 ∷ 8 ∷ 8 ∷ 8 ∷ 8 ∷ 8 ∷ NONE ∷ 0 ∷ 5 ∷ 6 ∷ 1 ∷ 1 ∷ 7 ∷ []) []))

-- a vertex without maps and influences: 8 numbers and a count
abbrev empty_vertex : ℕ → List ℕ
empty_vertex collapse = 8 ∷ 8 ∷ 8 ∷ 8 ∷ 8 ∷ 8 ∷ collapse ∷ 0 ∷ 0 ∷ []

-- a submesh of two bare vertices, then one of a bare vertex and a face with this last id
abbrev two_of : ℕ → List ℕ
two_of last =
    mesh_of 2 (write_words (0 ∷ 2 ∷ 0 ∷ 0 ∷ 0 ∷ 0 ∷ []) (write_words (empty_vertex 1 ++ empty_vertex NONE) (write_words (1 ∷ 1 ∷ 1 ∷ 0 ∷ 0 ∷ 0 ∷ []) (write_words (empty_vertex NONE) (write_words (0 ∷ 0 ∷ last ∷ []) [])))))

-- one submesh with these counts of vertices, faces, lod steps, springs and maps, and then these words
abbrev counts_of : ℕ → ℕ → ℕ → ℕ → ℕ → List ℕ → List ℕ
counts_of v f l g m ws = mesh_of 1 (write_words (5 ∷ v ∷ f ∷ l ∷ g ∷ m ∷ []) (write_words ws []))

pub meshes-told : map (λ (s : List ℕ). told_mesh (judge_mesh 2 s))
    (mesh_of 0 []
    ∷ cloth_of 0 1 0
    ∷ plain
    ∷ two_of 0
    ∷ two_of 1
    ∷ take 11 (mesh_of 0 [])
    ∷ write_words (skeleton_magic ∷ 700 ∷ 0 ∷ []) []
    ∷ write_words (mesh_magic ∷ 701 ∷ NONE ∷ []) []
    ∷ mesh_of NONE []
    ∷ mesh_of 2000000000 []
    ∷ counts_of NONE 0 0 0 0 []
    ∷ counts_of 0 NONE 0 0 0 []
    ∷ counts_of 0 0 NONE 0 0 []
    ∷ counts_of 0 0 0 NONE 0 []
    ∷ counts_of 0 0 0 0 NONE []
    ∷ counts_of 0 0 7 0 2147483647 []
    ∷ counts_of 1 0 0 0 0 (8 ∷ 8 ∷ 8 ∷ 8 ∷ 8 ∷ 8 ∷ NONE ∷ NONE ∷ 0 ∷ [])
    ∷ counts_of 1 0 0 0 0 (8 ∷ 8 ∷ 8 ∷ 8 ∷ 8 ∷ 8 ∷ NONE ∷ 0 ∷ NONE ∷ [])
    ∷ counts_of 1 0 0 0 0 (8 ∷ 8 ∷ 8 ∷ 8 ∷ 8 ∷ 8 ∷ NONE ∷ 0 ∷ 2000000000 ∷ [])
    ∷ counts_of 0 0 0 1 0 (0 ∷ 0 ∷ 1 ∷ 2 ∷ [])
    ∷ cloth_of 1 1 0
    ∷ cloth_of NONE 2 0
    ∷ cloth_of NONE 1 1
    ∷ take 35 (cloth_of 0 1 0)
    ∷ take 67 (cloth_of 0 1 0)
    ∷ take 75 (cloth_of 0 1 0)
    ∷ take 79 (cloth_of 0 1 0)
    ∷ take 87 (cloth_of 0 1 0)
    ∷ take 91 (cloth_of 0 1 0)
    ∷ take 107 (cloth_of 0 1 0)
    ∷ take 119 (cloth_of 0 1 0)
    ∷ (plain ++ (1 ∷ []))
    ∷ [])
    ≡ (0 ∷ 0 ∷ [])
    ∷ (0 ∷ 0 ∷ NONE ∷ 1 ∷ 1 ∷ 0 ∷ 1 ∷ 1 ∷ 0 ∷ 0 ∷ 0 ∷ 8 ∷ 8 ∷ 8 ∷ 8 ∷ 8 ∷ 8 ∷ 0 ∷ 0 ∷ 1 ∷ 3 ∷ 0 ∷ 0 ∷ 5 ∷ 6 ∷ 1 ∷ 7 ∷ 0 ∷ 0 ∷ 1 ∷ 2 ∷ 0 ∷ 0 ∷ 0 ∷ [])
    ∷ (0 ∷ 0 ∷ NONE ∷ 1 ∷ 0 ∷ 0 ∷ 0 ∷ 1 ∷ 0 ∷ 0 ∷ 0 ∷ 8 ∷ 8 ∷ 8 ∷ 8 ∷ 8 ∷ 8 ∷ NONE ∷ 0 ∷ 1 ∷ 0 ∷ 0 ∷ 0 ∷ 5 ∷ 6 ∷ 1 ∷ 7 ∷ [])
    ∷ (0 ∷ 0 ∷ 0 ∷ 2 ∷ 0 ∷ 0 ∷ 0 ∷ 0 ∷ 0 ∷ 0 ∷ 0 ∷ 1 ∷ 1 ∷ 1 ∷ 0 ∷ 0 ∷ 0 ∷ 2 ∷ 0 ∷ 0
    ∷ 8 ∷ 8 ∷ 8 ∷ 8 ∷ 8 ∷ 8 ∷ 1 ∷ 0 ∷ 0 ∷ 0 ∷ 0 ∷ 0 ∷ 8 ∷ 8 ∷ 8 ∷ 8 ∷ 8 ∷ 8 ∷ NONE ∷ 0 ∷ 0 ∷ 0 ∷ 0 ∷ 0 ∷ 8 ∷ 8 ∷ 8 ∷ 8 ∷ 8 ∷ 8 ∷ NONE ∷ 0 ∷ 0 ∷ 0 ∷ 0 ∷ 0 ∷ 0 ∷ 0 ∷ 0 ∷ [])
    ∷ (7 ∷ 176 ∷ [])
    ∷ (1 ∷ 0 ∷ [])
    ∷ (2 ∷ 0 ∷ [])
    ∷ (6 ∷ 4 ∷ [])
    ∷ (6 ∷ 8 ∷ [])
    ∷ (5 ∷ 12 ∷ [])
    ∷ (6 ∷ 16 ∷ [])
    ∷ (6 ∷ 20 ∷ [])
    ∷ (6 ∷ 24 ∷ [])
    ∷ (6 ∷ 28 ∷ [])
    ∷ (6 ∷ 32 ∷ [])
    ∷ (0 ∷ 0 ∷ 5 ∷ 0 ∷ 0 ∷ 7 ∷ 0 ∷ 2147483647 ∷ 0 ∷ 0 ∷ 0 ∷ [])
    ∷ (6 ∷ 64 ∷ [])
    ∷ (6 ∷ 68 ∷ [])
    ∷ (5 ∷ 72 ∷ [])
    ∷ (7 ∷ 36 ∷ [])
    ∷ (7 ∷ 60 ∷ [])
    ∷ (7 ∷ 80 ∷ [])
    ∷ (7 ∷ 116 ∷ [])
    ∷ (5 ∷ 12 ∷ [])
    ∷ (5 ∷ 36 ∷ [])
    ∷ (5 ∷ 68 ∷ [])
    ∷ (5 ∷ 76 ∷ [])
    ∷ (5 ∷ 80 ∷ [])
    ∷ (5 ∷ 88 ∷ [])
    ∷ (5 ∷ 92 ∷ [])
    ∷ (5 ∷ 108 ∷ [])
    ∷ (5 ∷ 88 ∷ [])
    ∷ []
unfolding computing
meshes-told = refl

-- the largest bone id that is not negative, and negative ones, for the largest counts
pub negative_bones : map (λ (c : ℕ × ℕ). told_mesh (judge_mesh c.0 (cloth_of 0 c.1 1)))
    ((2147483648, 2147483647) ∷ (4294967295, 2147483647) ∷ (2147483649, 2147483648) ∷ (4294967295, 4294967294) ∷ [])
    ≡ (7 ∷ 116 ∷ []) ∷ (7 ∷ 116 ∷ []) ∷ (7 ∷ 80 ∷ []) ∷ (7 ∷ 80 ∷ []) ∷ []
unfolding computing
negative_bones = refl

-- what is answered and left in the last table, for tables of so many words each
abbrev mesh_as : ℕ → MeshAnswer × List ℕ
mesh_as n = let o = read_mesh (λ k. n) 2 (cloth_of 0 1 0) in (mesh_answer o, mesh_table 6 o (lent 4))

pub meshes-read : map mesh_as (12 ∷ 11 ∷ 8 ∷ [])
    ≡ (record { number = 0; place = 0; head = 700 ∷ 1 ∷ []; counts = 1 ∷ 1 ∷ 1 ∷ 1 ∷ 1 ∷ 1 ∷ [] }, 0 ∷ 0 ∷ 0 ∷ 77 ∷ [])
    ∷ (record { number = 11; place = 2; head = 0 ∷ 0 ∷ []; counts = 0 ∷ 0 ∷ 0 ∷ 0 ∷ 0 ∷ 0 ∷ [] }, lent 4)
    ∷ (record { number = 11; place = 1; head = 0 ∷ 0 ∷ []; counts = 0 ∷ 0 ∷ 0 ∷ 0 ∷ 0 ∷ 0 ∷ [] }, lent 4)
    ∷ []
unfolding computing
meshes-read = refl
