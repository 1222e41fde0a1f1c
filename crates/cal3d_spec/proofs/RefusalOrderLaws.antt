-- The order of a skeleton's last refusals, whatever its size: 10, then 16, then 11.
use Prim.Native.Nat.{ℕ, ◌<◌}
use mathlib.Core.Path.{◌≡◌}
use mathlib.Core.List.{List}
use lib.ListN.{length}
use borrow.Author.Tests.{lt-leb}
use Rattle.layout.specs.Result.{accept, reject, check}
use Rattle.layout.specs.Rows.{each_of}
use Rattle.cal3d_spec.specs.Skeletons.{Skeleton, skeleton}
use Rattle.cal3d_spec.specs.Trees.{trees}
use Rattle.cal3d_spec.specs.Tables.{skeleton_rows, most_rows}
use Rattle.cal3d_spec.specs.Answers.{limited_skeleton, judge_skeleton, read_skeleton}

module _ (s : List ℕ) (t : Skeleton) (room : ℕ → ℕ) where
  pub ten-first : skeleton s ≡ accept t → most_rows < length (skeleton_rows 1 t) → read_skeleton room s ≡ reject 10 1
  unfolding read_skeleton judge_skeleton limited_skeleton each_of check
  ten-first e h = rw (e, lt-leb (length (skeleton_rows 1 t)) most_rows h)

  pub sixteen_next : (p : ℕ) → limited_skeleton s ≡ accept t → trees t.bones ≡ reject 16 p → read_skeleton room s ≡ reject 16 p
  unfolding read_skeleton judge_skeleton
  sixteen_next p e f = rw (e, f)
