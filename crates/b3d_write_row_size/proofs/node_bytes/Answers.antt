-- `node_bytes` adds up a row of table 3.
use Rattle.b3d_write_row_size.proofs.RowLaws.{node_laws}
use borrow.Author.Rules.{rules}
use Rattle.b3d_write_row_size.proofs.node_bytes.Goals as goal

pub size-requires : goal.size-requires
size-requires c = search (node_laws, rules)

pub overflow_add-result : goal.overflow_add-result
overflow_add-result c = search (node_laws, rules)

pub bytes_if-requires : goal.bytes_if-requires
bytes_if-requires c = search (node_laws, rules)

pub overflow_add-result-2 : goal.overflow_add-result-2
overflow_add-result-2 c = search (node_laws, rules)

pub bytes_if-requires-2 : goal.bytes_if-requires-2
bytes_if-requires-2 c = search (node_laws, rules)

pub overflow_add-result-3 : goal.overflow_add-result-3
overflow_add-result-3 c = search (node_laws, rules)

pub returns : goal.returns
returns c = search (node_laws, rules)
