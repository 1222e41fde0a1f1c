-- `mark` marks bones whose parents end, and no others.
use mathlib.Core.Path.{◌≡◌}
use lib.ListN.{length}
use Rattle.cal3d_skeleton_tree_check.proofs.ClimbLaws.{Marking}
use Rattle.cal3d_skeleton_tree_check.proofs.mark.Given as goal

abbrev pub invariant-loop : goal.invariant-loop
invariant-loop l = Marking l.parents l.marks l.x × (length l.marks ≡ length l.initial.marks)
