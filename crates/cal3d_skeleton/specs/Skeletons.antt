-- The promise of the skeleton reader.
use Rattle.std.specs.Prelude.{ℕ, ◌≡◌, List, [], ◌∷◌, length}
use Rattle.cal3d_spec.specs.Answers.{read_skeleton, skeleton_room, skeleton_answer, skeleton_table}
use Rattle.cal3d_spec.specs.declared.SkeletonAnswer.{SkeletonAnswer}
use Rattle.cal3d_skeleton_limits.specs.declared.SkeletonSummary.{SkeletonSummary}

-- the answer of an accepted file with the summary x
abbrev pub accepted_as : SkeletonSummary → SkeletonAnswer
accepted_as x = record { number = 0; place = 0; head = 1300 ∷ x.bones ∷ x.red ∷ x.green ∷ x.blue ∷ []; counts = x.bones ∷ x.children ∷ [] }

-- the promise of the skeleton reader for a file s and two tables: `bones` and `children` are the tables after it, r is the answer
pub record ReadsSkeleton (s bones₀ children₀ bones children : List ℕ) (r : SkeletonAnswer) : Type 0 where
  -- the answer
  pub answer : r ≡ skeleton_answer (read_skeleton (skeleton_room (length bones₀) (length children₀)) s)
  -- table 1
  pub first : bones ≡ skeleton_table 1 (read_skeleton (skeleton_room (length bones₀) (length children₀)) s) bones₀
  -- table 2
  pub second : children ≡ skeleton_table 2 (read_skeleton (skeleton_room (length bones₀) (length children₀)) s) children₀
