-- `judge_own` judges a node without the nodes below.
use Rattle.b3d_judge_node.proofs.OwnLaws.{own_laws}
use borrow.Author.Rules.{rules}
use Rattle.b3d_judge_node.proofs.judge_own.Goals as goal

pub named_row-requires : goal.named_row-requires
named_row-requires c = search (own_laws, rules)

pub judge_parts-requires : goal.judge_parts-requires
judge_parts-requires c = search (own_laws, rules)

pub returns-in_default : goal.returns-in_default
returns-in_default c = search (own_laws, rules)

pub returns : goal.returns
returns c = search (own_laws, rules)
