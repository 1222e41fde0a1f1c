-- `store_mesh` stores the row of a MESH.
use borrow.Author.Rules.{rules}
use Rattle.b3d_read_mesh_rows.proofs.MeshLaws.{row_laws}
use Rattle.b3d_read_mesh_rows.proofs.store_mesh.Goals as goal

pub first_word-head-requires : goal.first_word-head-requires
first_word-head-requires c = search (row_laws, rules)

pub find_shape-v-requires : goal.find_shape-v-requires
find_shape-v-requires c = search (row_laws, rules)

pub count_sets-n-requires : goal.count_sets-n-requires
count_sets-n-requires c = search (row_laws, rules)

pub cell-requires-3 : goal.cell-requires-3
cell-requires-3 c = search (row_laws, rules)

pub cell-requires-5 : goal.cell-requires-5
cell-requires-5 c = search (row_laws, rules)

pub returns : goal.returns
returns c = search (row_laws, rules)
