-- `store_vertices` stores the rows of the first VRTS of a MESH.
use Rattle.b3d_read_mesh_rows.proofs.VertexLaws.{mesh_laws}
use borrow.Author.Rules.{rules}
use Rattle.b3d_read_mesh_rows.proofs.store_vertices.Goals as goal

pub first_word-head-requires : goal.first_word-head-requires
first_word-head-requires c = search (mesh_laws, rules)

pub seek-requires : goal.seek-requires
seek-requires c = search (mesh_laws, rules)

pub store_vertex_rows-requires : goal.store_vertex_rows-requires
store_vertex_rows-requires c = search (mesh_laws, rules)

pub shape_of-out : goal.shape_of-out
shape_of-out c = search (mesh_laws, rules)

pub returns-in_default : goal.returns-in_default
returns-in_default c = search (mesh_laws, rules)

pub returns : goal.returns
returns c = search (mesh_laws, rules)
