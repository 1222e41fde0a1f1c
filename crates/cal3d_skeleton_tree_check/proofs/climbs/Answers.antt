-- `climbs` answers whether a bone's parents end. The loop has passed parents.
use borrow.Author.Rules.{rules}
use Rattle.cal3d_skeleton_tree_check.proofs.ClimbLaws.{climbing}
use Rattle.cal3d_skeleton_tree_check.proofs.climbs.Goals as goal

pub loop-init : goal.loop-init
loop-init c = search (climbing, rules)

pub returns-then-marks-x-eq1 : goal.returns-then-marks-x-eq1
returns-then-marks-x-eq1 c = search (climbing, rules)

pub returns-then-p : goal.returns-then-p
returns-then-p c = search (climbing, rules)

pub loop-preserved : goal.loop-preserved
loop-preserved c = search (climbing, rules)

pub returns : goal.returns
returns c = search (climbing, rules)
