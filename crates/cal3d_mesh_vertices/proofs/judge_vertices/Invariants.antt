-- `judge_vertices` answers so many times `read_vertex`. The loop has passed whole vertices.
use Prim.Native.Nat.{◌+◌, ◌*◌}
use Rattle.shared_counted_lists.proofs.SumLaws.{Summing}
use Rattle.cal3d_spec.specs.Meshes.{read_vertex}
use Rattle.cal3d_mesh_vertices.specs.Vertices.{influences_in}
use Rattle.cal3d_mesh_vertices.proofs.judge_vertices.Given as goal

abbrev pub invariant-loop : goal.invariant-loop
invariant-loop l = Summing (read_vertex l.bones l.n.vertices l.n.springs l.n.maps) influences_in (36 + l.n.maps * 8) l.s l.n.vertices l.initial.c l.c l.counter l.influences
