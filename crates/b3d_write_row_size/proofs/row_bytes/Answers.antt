-- `row_bytes` adds up a row by the table that it is of.
use Rattle.b3d_write_row_size.proofs.RowLaws.{row_laws}
use borrow.Author.Rules.{rules}
use Rattle.b3d_write_row_size.proofs.row_bytes.Goals as goal

pub node_row-requires : goal.node_row-requires
node_row-requires c = search (row_laws, rules)

pub returns-then-which-eq3 : goal.returns-then-which-eq3
returns-then-which-eq3 c = search (row_laws, rules)

pub mesh_row-requires : goal.mesh_row-requires
mesh_row-requires c = search (row_laws, rules)

pub returns-then-which-eq4 : goal.returns-then-which-eq4
returns-then-which-eq4 c = search (row_laws, rules)

pub list_row-requires : goal.list_row-requires
list_row-requires c = search (row_laws, rules)

pub returns-then-which-eq9 : goal.returns-then-which-eq9
returns-then-which-eq9 c = search (row_laws, rules)

pub returns : goal.returns
returns c = search (row_laws, rules)
