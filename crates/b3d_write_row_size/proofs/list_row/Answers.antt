-- `list_row` takes the cells of a key list.
use Rattle.b3d_write_row_size.proofs.RowLaws.{cell_laws}
use borrow.Author.Rules.{rules}
use Rattle.b3d_write_row_size.proofs.list_row.Goals as goal

pub list_bytes-requires : goal.list_bytes-requires
list_bytes-requires c = search (cell_laws, rules)

pub returns : goal.returns
returns c = search (cell_laws, rules)
