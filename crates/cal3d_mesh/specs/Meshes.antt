-- What the reader of mesh files answers and leaves.
use Rattle.std.specs.Prelude.{ℕ, ◌≡◌, List, [], ◌∷◌, length}
use Rattle.layout.specs.Result.{Result}
use Rattle.cal3d_spec.specs.Meshes.{Mesh}
use Rattle.cal3d_spec.specs.Answers.{read_mesh, mesh_answer, mesh_table}
use Rattle.cal3d_spec.specs.declared.MeshAnswer.{MeshAnswer}
use Rattle.shared_room.specs.Rooms.{number_of}

-- the mesh of the file s, bone ids being below `bones`, lent six tables as long as these
abbrev pub read_into : List ℕ → List ℕ → List ℕ → List ℕ → List ℕ → List ℕ → ℕ → List ℕ → Result Mesh
read_into t1 t2 t3 t4 t5 t6 bones s = read_mesh (number_of (length t1 ∷ length t2 ∷ length t3 ∷ length t4 ∷ length t5 ∷ length t6 ∷ [])) bones s

-- the promise of the mesh reader for a file s, a number of bones and six tables t1 to t6: u1 to u6 are the tables after it, r is the answer
pub record ReadsMesh (bones : ℕ) (s t1 t2 t3 t4 t5 t6 u1 u2 u3 u4 u5 u6 : List ℕ) (r : MeshAnswer) : Type 0 where
  -- the answer
  pub answer : r ≡ mesh_answer (read_into t1 t2 t3 t4 t5 t6 bones s)
  -- table 1
  pub submeshes : u1 ≡ mesh_table 1 (read_into t1 t2 t3 t4 t5 t6 bones s) t1
  -- table 2
  pub vertices : u2 ≡ mesh_table 2 (read_into t1 t2 t3 t4 t5 t6 bones s) t2
  -- table 3
  pub maps : u3 ≡ mesh_table 3 (read_into t1 t2 t3 t4 t5 t6 bones s) t3
  -- table 4
  pub influences : u4 ≡ mesh_table 4 (read_into t1 t2 t3 t4 t5 t6 bones s) t4
  -- table 5
  pub springs : u5 ≡ mesh_table 5 (read_into t1 t2 t3 t4 t5 t6 bones s) t5
  -- table 6
  pub faces : u6 ≡ mesh_table 6 (read_into t1 t2 t3 t4 t5 t6 bones s) t6
