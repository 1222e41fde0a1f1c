-- `put_vertex_rows` writes rows by the runs of a vertex. The loop has written the first i.
use Prim.Native.Nat.{◌*◌}
use Rattle.b3d_write_row_runs.proofs.PresentWordLaws.{From}
use Rattle.b3d_write_vertices.proofs.put_vertex_rows.Given as goal

abbrev pub invariant-loop-i : goal.invariant-loop-i
invariant-loop-i l = From l.g 42 l.vertices (42 * l.first) l.count l.initial.out l.out l.at l.i
