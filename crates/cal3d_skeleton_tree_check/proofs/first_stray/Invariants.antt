-- `first_stray` answers the lowest bone that does not stand right. The loop has passed bones that do.
use mathlib.Core.Path.{◌≡◌}
use lib.ListN.{length}
use Rattle.cal3d_skeleton_tree_check.proofs.StrayLaws.{Straying}
use Rattle.cal3d_skeleton_tree_check.proofs.first_stray.Given as goal

abbrev pub invariant-loop-b : goal.invariant-loop-b
invariant-loop-b l = Straying l.parents l.scores l.marks l.b × (length l.marks ≡ length l.initial.marks)
