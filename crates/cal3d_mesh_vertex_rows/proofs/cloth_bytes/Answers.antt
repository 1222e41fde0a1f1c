-- `cloth_bytes` says how many bytes that takes.
use borrow.Author.Rules.{rules}
use Rattle.cal3d_mesh_vertex_rows.proofs.VertexLaws.{cloth}
use Rattle.cal3d_mesh_vertex_rows.proofs.cloth_bytes.Goals as goal

pub returns-then-springs-eq0 : goal.returns-then-springs-eq0
returns-then-springs-eq0 c = search (cloth, rules)

pub returns : goal.returns
returns c = search (cloth, rules)
