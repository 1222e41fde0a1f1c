-- `next_node` meets the next NODE, enters it and stores its row.
use Rattle.b3d_rows_nodes.proofs.NextNodeLaws.{node_laws}
use native.Mathlib.Omega.{arith}
use borrow.Author.Rules.{rules}
use Rattle.b3d_rows_nodes.proofs.next_node.Goals as goal

pub find_node-requires : goal.find_node-requires
find_node-requires c = search (node_laws, rules)

pub enum_told-1 : goal.enum_told-1
enum_told-1 c = search (node_laws, rules)

pub returns-in_default : goal.returns-in_default
returns-in_default c = search (node_laws, rules)

pub is_full-requires : goal.is_full-requires
is_full-requires c = search (node_laws, rules)

pub returns-then-is_full : goal.returns-then-is_full
returns-then-is_full c = search (node_laws, rules)

pub cell-i-requires : goal.cell-i-requires
cell-i-requires c = search (node_laws, rules)

pub enter-e-requires : goal.enter-e-requires
enter-e-requires c = search (node_laws, rules)

pub store_node-requires : goal.store_node-requires
store_node-requires c = let v = c.requires.0 in let h = c.requires.1 in (search node_laws, search node_laws, search node_laws, search node_laws, search node_laws, omega (arith, h))

pub overflow_add-counts : goal.overflow_add-counts
overflow_add-counts c = search (node_laws, rules)

pub shape_of-row : goal.shape_of-row
shape_of-row c = search (node_laws, rules)

pub returns : goal.returns
returns c = let v = c.requires.0 in search (node_laws, rules)
