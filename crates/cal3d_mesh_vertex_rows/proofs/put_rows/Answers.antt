-- `put_rows` stores the words of rows.
use borrow.Author.Rules.{rules}
use Rattle.cal3d_mesh_vertex_rows.proofs.VertexLaws.{rows-put}
use Rattle.cal3d_mesh_vertex_rows.proofs.put_rows.Goals as goal

pub returns : goal.returns
returns c = search (rows-put, rules)
