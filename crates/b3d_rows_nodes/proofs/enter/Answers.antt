-- `enter` puts a node on the path.
use Rattle.b3d_rows_nodes.proofs.NodeStackLaws.{enter_laws}
use borrow.Author.Rules.{rules}
use Rattle.b3d_rows_nodes.proofs.enter.Goals as goal

pub close-d-requires : goal.close-d-requires
close-d-requires c = search (enter_laws, rules)

pub top-parent-requires : goal.top-parent-requires
top-parent-requires c = search (enter_laws, rules)

pub offset_bounds-ends-d : goal.offset_bounds-ends-d
offset_bounds-ends-d c = search (enter_laws, rules)

pub bounds-ends-d : goal.bounds-ends-d
bounds-ends-d c = search (enter_laws, rules)

pub offset_bounds-nodes-d : goal.offset_bounds-nodes-d
offset_bounds-nodes-d c = search (enter_laws, rules)

pub bounds-nodes-d : goal.bounds-nodes-d
bounds-nodes-d c = search (enter_laws, rules)

pub overflow_add-result : goal.overflow_add-result
overflow_add-result c = search (enter_laws, rules)

pub returns : goal.returns
returns c = search (enter_laws, rules)
