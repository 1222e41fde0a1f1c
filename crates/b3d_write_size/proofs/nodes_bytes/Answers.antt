-- `nodes_bytes` adds up the tables 3, 4 and 9.
use Rattle.b3d_write_size.proofs.TotalLaws.{nodes_laws}
use borrow.Author.Rules.{rules}
use Rattle.b3d_write_size.proofs.nodes_bytes.Goals as goal

pub rows_bytes-nodes-requires : goal.rows_bytes-nodes-requires
rows_bytes-nodes-requires c = search (nodes_laws, rules)

pub returns : goal.returns
returns c = search (nodes_laws, rules)
