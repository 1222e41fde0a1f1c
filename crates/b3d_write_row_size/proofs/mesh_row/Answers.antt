-- `mesh_row` takes the cells of a mesh.
use Rattle.b3d_write_row_size.proofs.RowLaws.{cell_laws}
use borrow.Author.Rules.{rules}
use Rattle.b3d_write_row_size.proofs.mesh_row.Goals as goal

pub mesh_bytes-requires : goal.mesh_bytes-requires
mesh_bytes-requires c = search (cell_laws, rules)

pub returns : goal.returns
returns c = search (cell_laws, rules)
