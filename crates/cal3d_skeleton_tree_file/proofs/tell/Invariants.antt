-- `tell` notes each bone's list.
use mathlib.Core.Path.{◌≡◌}
use lib.ListN.{length}
use Rattle.cal3d_skeleton_tree_file.specs.Links.{bones_at}
use Rattle.cal3d_skeleton_tree_file.proofs.TellLaws.{Telling}
use Rattle.cal3d_skeleton_tree_file.proofs.tell.Given as goal

abbrev pub invariant-loop-i : goal.invariant-loop-i
invariant-loop-i l = Telling l.s l.bones (bones_at l.s l.initial.c l.bones) l.parents l.c l.i l.entries l.scores × (length l.scores ≡ length l.initial.scores)
