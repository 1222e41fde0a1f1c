-- `named_bones` answers so many bones that ids can name.
use borrow.Author.Rules.{rules}
use Rattle.cal3d_mesh_judge.proofs.JudgeLaws.{bones-named}
use Rattle.cal3d_mesh_judge.proofs.named_bones.Goals as goal

pub returns-then-bone_count-gt2147483648 : goal.returns-then-bone_count-gt2147483648
returns-then-bone_count-gt2147483648 c = search (bones-named, rules)

pub returns : goal.returns
returns c = search (bones-named, rules)
