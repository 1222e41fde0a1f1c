-- `bones_below` tells those below what the definition tells them.
use Rattle.b3d_judge_node.proofs.OwnLaws.{below_laws}
use borrow.Author.Rules.{rules}
use Rattle.b3d_judge_node.proofs.bones_below.Goals as goal

pub enum_told-1 : goal.enum_told-1
enum_told-1 c = search (below_laws, rules)

pub enum_known-a : goal.enum_known-a
enum_known-a c = search (below_laws, rules)

pub returns-then-anim : goal.returns-then-anim
returns-then-anim c = search (below_laws, rules)
