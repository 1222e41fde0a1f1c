-- `gather` stores the parents.
use mathlib.Core.Path.{◌≡◌}
use lib.ListN.{length}
use Rattle.cal3d_skeleton_tree_file.specs.Links.{bones_at}
use Rattle.cal3d_skeleton_tree_file.proofs.GatherLaws.{Gathering}
use Rattle.cal3d_skeleton_tree_file.proofs.gather.Given as goal

abbrev pub invariant-loop-i : goal.invariant-loop-i
invariant-loop-i l = Gathering l.s l.bones (bones_at l.s l.initial.c l.bones) l.initial.out l.c l.i l.out × (length l.out ≡ length l.initial.out)
