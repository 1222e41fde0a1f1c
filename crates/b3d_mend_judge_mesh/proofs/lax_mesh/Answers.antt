-- `lax_mesh` judges a MESH as it is mended: its brush, then the chunks inside.
use Rattle.b3d_mend_judge_mesh.proofs.MeshLaws.{mesh_laws}
use borrow.Author.Rules.{rules}
use Rattle.b3d_mend_judge_mesh.proofs.lax_mesh.Goals as goal

pub number-requires : goal.number-requires
number-requires c = search (mesh_laws, rules)

pub trimmed-d-requires : goal.trimmed-d-requires
trimmed-d-requires c = search (mesh_laws, rules)

pub lax_inside-requires : goal.lax_inside-requires
lax_inside-requires c = search (mesh_laws, rules)

pub returns-in_default : goal.returns-in_default
returns-in_default c = search (mesh_laws, rules)

pub returns : goal.returns
returns c = search (mesh_laws, rules)
