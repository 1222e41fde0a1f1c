-- `store_node` counts the nodes below and stores the row.
use Rattle.b3d_read_nodes.proofs.CellLaws.{node_laws}
use borrow.Author.Rules.{rules}
use Rattle.b3d_read_nodes.proofs.store_node.Goals as goal

pub named_row-requires : goal.named_row-requires
named_row-requires c = search (node_laws, rules)

pub nodes_before-below-requires : goal.nodes_before-below-requires
nodes_before-below-requires c = search (node_laws, rules)

pub store_row-requires : goal.store_row-requires
store_row-requires c = search (node_laws, rules)

pub shape_of-out : goal.shape_of-out
shape_of-out c = search (node_laws, rules)

pub returns-in_default : goal.returns-in_default
returns-in_default c = search (node_laws, rules)

pub returns : goal.returns
returns c = search (node_laws, rules)
