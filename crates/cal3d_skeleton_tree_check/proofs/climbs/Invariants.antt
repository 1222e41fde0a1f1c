-- `climbs` answers whether a bone's parents end. The loop has passed parents.
use Rattle.cal3d_skeleton_tree_check.proofs.ClimbLaws.{Climbing}
use Rattle.cal3d_skeleton_tree_check.proofs.climbs.Given as goal

abbrev pub invariant-loop : goal.invariant-loop
invariant-loop l = Climbing l.parents l.b l.x l.counter
