-- `cloth_weight` reads a number only where there are springs.
use borrow.Author.Rules.{rules}
use Rattle.cal3d_mesh_vertex_rows.proofs.VertexLaws.{cloth}
use Rattle.cal3d_mesh_vertex_rows.proofs.cloth_weight.Goals as goal

pub returns-then-springs-eq0 : goal.returns-then-springs-eq0
returns-then-springs-eq0 c = search (cloth, rules)

pub number_at-requires : goal.number_at-requires
number_at-requires c = search (cloth, rules)

pub returns : goal.returns
returns c = search (cloth, rules)
