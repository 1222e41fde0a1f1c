-- `judge_submeshes` answers so many times `read_submesh`. The loop has passed whole submeshes, each of 24 bytes or more, so that the bytes bound its turns.
use Rattle.cal3d_mesh_submeshes.proofs.TotalLaws.{Totalling}
use Rattle.cal3d_mesh_submeshes.proofs.judge_submeshes.Given as goal

abbrev pub invariant-loop : goal.invariant-loop
invariant-loop l = Totalling l.s l.bones l.submeshes l.initial.c l.c l.counter l.all
