-- `top` is the last.
use Rattle.b3d_rows_nodes.proofs.NodeStackLaws.{top_laws}
use borrow.Author.Rules.{rules}
use Rattle.b3d_rows_nodes.proofs.top.Goals as goal

pub returns-then-d-eq0 : goal.returns-then-d-eq0
returns-then-d-eq0 c = search (top_laws, rules)

pub overflow_sub-result : goal.overflow_sub-result
overflow_sub-result c = search (top_laws, rules)

pub offset_bounds-nodes-d : goal.offset_bounds-nodes-d
offset_bounds-nodes-d c = search (top_laws, rules)

pub bounds-nodes-d : goal.bounds-nodes-d
bounds-nodes-d c = search (top_laws, rules)

pub returns : goal.returns
returns c = search (top_laws, rules)
