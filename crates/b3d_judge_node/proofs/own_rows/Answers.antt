-- `own_rows` adds the rows of a node, of its kind and of its moves.
use Rattle.b3d_judge_node.proofs.OwnLaws.{own-rows_laws}
use borrow.Author.Rules.{rules}
use Rattle.b3d_judge_node.proofs.own_rows.Goals as goal

pub head-requires : goal.head-requires
head-requires c = search (own-rows_laws, rules)

pub plus-requires : goal.plus-requires
plus-requires c = search (own-rows_laws, rules)

pub plus-requires-2 : goal.plus-requires-2
plus-requires-2 c = search (own-rows_laws, rules)

pub returns : goal.returns
returns c = search (own-rows_laws, rules)
