-- `put_sets` stores the sets of a vertex that are there, then zeros for the others.
use Rattle.b3d_read_vertex_rows.proofs.SetLaws.{SetsLeft}
use Rattle.b3d_read_vertex_rows.proofs.put_sets.Given as goal

abbrev pub invariant-loop : goal.invariant-loop
invariant-loop l = SetsLeft l.file l.sets l.size l.base l.initial.out l.at l.out l.counter l.p l.o
