-- `node_row` takes the cells of a node.
use Rattle.b3d_write_row_size.proofs.RowLaws.{cell_laws}
use borrow.Author.Rules.{rules}
use Rattle.b3d_write_row_size.proofs.node_row.Goals as goal

pub returns : goal.returns
returns c = search (cell_laws, rules)
