-- `pass_vertex` adds what a vertex takes.
use Rattle.cal3d_mesh_vertex_rows.proofs.VertexLaws.{vertex-passed}
use Rattle.cal3d_mesh_vertex_rows.proofs.pass_vertex.Goals as goal

pub returns : goal.returns
returns c = vertex-passed _ _ _ _ _ c.cloth_bytes.ensures
