-- The reader's answer from the judge's.
use Rattle.std.specs.Prelude.{◌≡◌, ℕ, List}
use Rattle.shared_room.specs.Rooms.{number_of}
use Rattle.cal3d_spec.specs.Answers.{judge_mesh, read_mesh, mesh_answer}
use Rattle.cal3d_spec.specs.declared.MeshAnswer.{MeshAnswer}

-- r is the reader's answer with tables of these lengths, if `judged` is the judge's
pub record WithRoom (judged : MeshAnswer) (rooms : List ℕ) (r : MeshAnswer) : Type 0 where
  -- for every file and number of bones
  pub answer : (bones : ℕ) (s : List ℕ) → judged ≡ mesh_answer (judge_mesh bones s) → r ≡ mesh_answer (read_mesh (number_of rooms) bones s)
