-- `put_vertex` stores a vertex's numbers, and behind them its four other cells.
use borrow.Author.Rules.{rules}
use Rattle.cal3d_mesh_vertex_rows.proofs.VertexLaws.{vertex-put}
use Rattle.cal3d_mesh_vertex_rows.proofs.put_vertex.Goals as goal

pub returns : goal.returns
returns c = search (vertex-put, rules)
