-- `lay_bone` answers where the parts of a bone stand.
use borrow.Author.Rules.{rules}
use Rattle.cal3d_skeleton_bones.proofs.BoneLaws.{bone}
use Rattle.cal3d_skeleton_bones.proofs.LayLaws.{lay}
use Rattle.cal3d_skeleton_bones.proofs.lay_bone.Goals as goal

pub judge_links-requires : goal.judge_links-requires
judge_links-requires c = search (bone, rules)

pub returns-in_default : goal.returns-in_default
returns-in_default c = search (lay, rules)

pub returns-in_default-judge_links : goal.returns-in_default-judge_links
returns-in_default-judge_links c = search (lay, rules)

pub returns : goal.returns
returns c = search (lay, rules)
