-- `mesh_rows` adds the rows of the vertices and of the sets.
use Rattle.b3d_judge_mesh.proofs.SetLaws.{rows_laws}
use borrow.Author.Rules.{rules}
use Rattle.b3d_judge_mesh.proofs.mesh_rows.Goals as goal

pub vertices-requires : goal.vertices-requires
vertices-requires c = search (rows_laws, rules)

pub plus-requires : goal.plus-requires
plus-requires c = search (rows_laws, rules)

pub returns : goal.returns
returns c = search (rows_laws, rules)
