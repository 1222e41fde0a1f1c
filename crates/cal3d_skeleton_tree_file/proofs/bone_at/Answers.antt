-- `bone_at` passes the bones before the one that is asked for.
use borrow.Author.Rules.{rules}
use Rattle.cal3d_skeleton_tree_file.proofs.PlaceLaws.{places}
use Rattle.cal3d_skeleton_tree_file.proofs.bone_at.Goals as goal

pub loop-init : goal.loop-init
loop-init c = search (places, rules)

pub lay_bone-requires : goal.lay_bone-requires
lay_bone-requires c = search (places, rules)

pub returns-in_default : goal.returns-in_default
returns-in_default c = search (places, rules)

pub loop-preserved : goal.loop-preserved
loop-preserved c = search (places, rules)

pub returns : goal.returns
returns c = search (places, rules)
