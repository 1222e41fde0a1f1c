-- `bytes_if` gives the bytes or none.
use Rattle.b3d_write_row_size.proofs.RowLaws.{node_laws}
use borrow.Author.Rules.{rules}
use Rattle.b3d_write_row_size.proofs.bytes_if.Goals as goal

pub returns-then-cell-value : goal.returns-then-cell-value
returns-then-cell-value c = search (node_laws, rules)

pub returns : goal.returns
returns c = search (node_laws, rules)
