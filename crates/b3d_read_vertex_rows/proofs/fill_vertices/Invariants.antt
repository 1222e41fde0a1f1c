-- `fill_vertices` stores rows by the mask of a vertex, in runs. The loop has stored those before the one that begins at `at`.
use Rattle.b3d_read_vertex_rows.specs.Vertices.{vertex_at}
use Rattle.b3d_read_vertex_rows.proofs.FillLaws.{Filling}
use Rattle.b3d_read_vertex_rows.proofs.fill_vertices.Given as goal

abbrev pub invariant-loop : goal.invariant-loop
invariant-loop l = Filling (vertex_at l.a l.b l.n l.z) 42 l.file l.words l.base l.initial.out l.count l.initial.at l.out l.counter l.at l.o
