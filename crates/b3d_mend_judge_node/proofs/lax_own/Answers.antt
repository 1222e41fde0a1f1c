-- `lax_own` judges a node as it is mended, without the nodes below.
use Rattle.b3d_mend_judge_node.proofs.OwnLaws.{own_laws}
use borrow.Author.Rules.{rules}
use Rattle.b3d_mend_judge_node.proofs.lax_own.Goals as goal

pub named_row-requires : goal.named_row-requires
named_row-requires c = search (own_laws, rules)

pub trimmed-d-requires : goal.trimmed-d-requires
trimmed-d-requires c = search (own_laws, rules)

pub lax_parts-requires : goal.lax_parts-requires
lax_parts-requires c = search (own_laws, rules)

pub returns-in_default : goal.returns-in_default
returns-in_default c = search (own_laws, rules)

pub returns : goal.returns
returns c = search (own_laws, rules)
