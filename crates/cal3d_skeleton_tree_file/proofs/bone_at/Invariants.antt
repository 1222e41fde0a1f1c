-- `bone_at` passes the bones before the one that is asked for.
use Rattle.cal3d_skeleton_tree_file.specs.Links.{bones_at}
use Rattle.cal3d_skeleton_tree_file.proofs.PlaceLaws.{Placing}
use Rattle.cal3d_skeleton_tree_file.proofs.bone_at.Given as goal

abbrev pub invariant-loop : goal.invariant-loop
invariant-loop l = Placing l.s l.bones (bones_at l.s l.initial.c l.bones) l.c l.counter
