-- `mark` marks bones whose parents end, and no others.
use borrow.Author.Rules.{rules}
use Rattle.cal3d_skeleton_tree_check.proofs.ClimbLaws.{marking}
use Rattle.cal3d_skeleton_tree_check.proofs.mark.Goals as goal

pub loop-init : goal.loop-init
loop-init c = search (marking, rules)

pub bounds-marks-x : goal.bounds-marks-x
bounds-marks-x c = search (marking, rules)

pub returns-then-marks-x-eq1 : goal.returns-then-marks-x-eq1
returns-then-marks-x-eq1 c = search (marking, rules)

pub bounds-marks-x-in-loop : goal.bounds-marks-x-in-loop
bounds-marks-x-in-loop c = search (marking, rules)

pub bounds-parents-x : goal.bounds-parents-x
bounds-parents-x c = search (marking, rules)

pub returns-then-p : goal.returns-then-p
returns-then-p c = search (marking, rules)

pub loop-preserved : goal.loop-preserved
loop-preserved c = search (marking, rules)

pub returns : goal.returns
returns c = search (marking, rules)
