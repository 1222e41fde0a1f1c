-- What the readers answer and what they leave in each lent table, on every input: 1, 2, 5, 6, 7 in reading order, then 10, for a
-- skeleton 16, then 11.
use Rattle.std.specs.Prelude.{ℕ, ◌*◌, List, map, length, replicate, leb, eqb}
use Rattle.wire.specs.Test.{if}
use Rattle.wire.specs.Bytes.{over}
use Rattle.layout.specs.Result.{Result, accept, reject, ◌>>=◌}
use Rattle.layout.specs.Rows.{joined, each_of}
use Rattle.layout.specs.Refusals as refusals
use Rattle.cal3d_spec.specs.Skeletons.{Skeleton, skeleton}
use Rattle.cal3d_spec.specs.Meshes.{Mesh, mesh}
use Rattle.cal3d_spec.specs.Trees.{trees}
use Rattle.cal3d_spec.specs.Tables.{skeleton_tables, skeleton_file_width, skeleton_rows, mesh_tables, mesh_file_width, mesh_rows, most_rows}
use Rattle.cal3d_spec.specs.declared.SkeletonAnswer.{SkeletonAnswer}
use Rattle.cal3d_spec.specs.declared.MeshAnswer.{MeshAnswer}

-- ---- skeletons

-- the skeleton of the file s, or the first of its refusals 1 to 10
unfoldable pub limited_skeleton : List ℕ → Result Skeleton
limited_skeleton s = do
  t ← skeleton s
  _ ← each_of refusals.too_many_rows (λ k. leb (length (skeleton_rows k t)) most_rows) skeleton_tables
  accept t

-- the skeleton of the file s, or the first of its refusals 1 to 10, then 16
unfoldable pub judge_skeleton : List ℕ → Result Skeleton
judge_skeleton s = do
  t ← limited_skeleton s
  _ ← trees t.bones
  accept t

-- the skeleton of the file s, lent tables of which table k has room k words: its refusals 1 to 10, 16, then 11
unfoldable pub read_skeleton : (ℕ → ℕ) → List ℕ → Result Skeleton
read_skeleton room s = do
  t ← judge_skeleton s
  _ ← each_of refusals.too_short (λ k. leb (skeleton_file_width k * length (skeleton_rows k t)) (room k)) skeleton_tables
  accept t

-- the room of table k: a words for table 1, else b
abbrev pub skeleton_room : ℕ → ℕ → ℕ → ℕ
skeleton_room a b k = if (eqb k 1) a b

-- the reader's answer: on acceptance the header's numbers and the row counts, on a refusal its number and place, all else 0
unfoldable pub skeleton_answer : Result Skeleton → SkeletonAnswer
skeleton_answer (accept t) = record { number = 0; place = 0; head = t.head; counts = map (λ (k : ℕ). length (skeleton_rows k t)) skeleton_tables }
skeleton_answer (reject n p) = record { number = n; place = p; head = replicate 5 0; counts = replicate 2 0 }

-- table k after the reader, xs before: its rows, then what stood there; on a refusal xs
unfoldable pub skeleton_table : ℕ → Result Skeleton → List ℕ → List ℕ
skeleton_table k (accept t) xs = over (joined (skeleton_rows k t)) xs
skeleton_table k (reject n p) xs = xs

-- ---- meshes

-- the mesh of the file s, bone ids being below `bones`, or the first of its refusals 1 to 10
unfoldable pub judge_mesh : ℕ → List ℕ → Result Mesh
judge_mesh bones s = do
  t ← mesh bones s
  _ ← each_of refusals.too_many_rows (λ k. leb (length (mesh_rows k t)) most_rows) mesh_tables
  accept t

-- the mesh of the file s, lent tables of which table k has room k words: its refusals 1 to 10, then 11
unfoldable pub read_mesh : (ℕ → ℕ) → ℕ → List ℕ → Result Mesh
read_mesh room bones s = do
  t ← judge_mesh bones s
  _ ← each_of refusals.too_short (λ k. leb (mesh_file_width k * length (mesh_rows k t)) (room k)) mesh_tables
  accept t

-- the reader's answer: on acceptance the header's numbers and the row counts, on a refusal its number and place, all else 0
unfoldable pub mesh_answer : Result Mesh → MeshAnswer
mesh_answer (accept t) = record { number = 0; place = 0; head = t.head; counts = map (λ (k : ℕ). length (mesh_rows k t)) mesh_tables }
mesh_answer (reject n p) = record { number = n; place = p; head = replicate 2 0; counts = replicate 6 0 }

-- table k after the reader, xs before: its rows, then what stood there; on a refusal xs
unfoldable pub mesh_table : ℕ → Result Mesh → List ℕ → List ℕ
mesh_table k (accept t) xs = over (joined (mesh_rows k t)) xs
mesh_table k (reject n p) xs = xs
