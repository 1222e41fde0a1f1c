-- `clear_mesh` goes by the number that stands first.
use Rattle.b3d_clear_chunks.proofs.MeshLaws.{mesh_laws}
use borrow.Author.Rules.{rules}
use Rattle.b3d_clear_chunks.proofs.clear_mesh.Goals as goal

pub number-requires : goal.number-requires
number-requires c = search (mesh_laws, rules)

pub mesh_chunk-requires : goal.mesh_chunk-requires
mesh_chunk-requires c = search (mesh_laws, rules)

pub shape_of-out : goal.shape_of-out
shape_of-out c = search (mesh_laws, rules)

pub returns-in_default : goal.returns-in_default
returns-in_default c = search (mesh_laws, rules)

pub returns : goal.returns
returns c = search (mesh_laws, rules)
