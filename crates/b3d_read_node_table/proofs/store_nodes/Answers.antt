-- `store_nodes` stores the rows and then their branch words.
use Rattle.b3d_read_node_table.proofs.RowsAheadLaws.{bare_laws}
use borrow.Author.Rules.{rules}
use Rattle.b3d_read_node_table.proofs.store_nodes.Goals as goal

pub store_bare_rows-nodes-requires : goal.store_bare_rows-nodes-requires
store_bare_rows-nodes-requires c = search (bare_laws, rules)

pub store_branch_words-requires : goal.store_branch_words-requires
store_branch_words-requires c = search (bare_laws, rules)

pub shape_of-out : goal.shape_of-out
shape_of-out c = search (bare_laws, rules)

pub returns : goal.returns
returns c = search (bare_laws, rules)
