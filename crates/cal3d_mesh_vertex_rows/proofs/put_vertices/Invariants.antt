-- `put_vertices` goes from vertex to vertex.
use Rattle.cal3d_mesh_vertex_rows.proofs.VerticesLaws.{VerticesLeft}
use Rattle.cal3d_mesh_vertex_rows.proofs.put_vertices.Given as goal

abbrev pub invariant-loop-i : goal.invariant-loop-i
invariant-loop-i l = VerticesLeft l.s l.x l.initial.m l.first l.initial.vertices l.initial.maps l.initial.influences l.vertices l.maps l.influences l.m l.i
