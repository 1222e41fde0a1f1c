-- `judge_mesh` judges a MESH: its brush, then the chunks inside.
use Rattle.b3d_judge_mesh.proofs.MeshLaws.{mesh_laws}
use borrow.Author.Rules.{rules}
use Rattle.b3d_judge_mesh.proofs.judge_mesh.Goals as goal

pub number-requires : goal.number-requires
number-requires c = search (mesh_laws, rules)

pub id_valid-requires : goal.id_valid-requires
id_valid-requires c = search (mesh_laws, rules)

pub returns-then-not-id_valid : goal.returns-then-not-id_valid
returns-then-not-id_valid c = search (mesh_laws, rules)

pub judge_inside-requires : goal.judge_inside-requires
judge_inside-requires c = search (mesh_laws, rules)

pub returns-in_default : goal.returns-in_default
returns-in_default c = search (mesh_laws, rules)

pub returns : goal.returns
returns c = search (mesh_laws, rules)
