-- `wanted` answers the score of a bone that stands right.
use borrow.Author.Rules.{rules}
use Rattle.cal3d_skeleton_tree_check.proofs.StrayLaws.{notes}
use Rattle.cal3d_skeleton_tree_check.proofs.wanted.Goals as goal

pub returns-then-parent-eq4294967295 : goal.returns-then-parent-eq4294967295
returns-then-parent-eq4294967295 c = search (notes, rules)

pub returns : goal.returns
returns c = search (notes, rules)
