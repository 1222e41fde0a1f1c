-- `put_sets` goes from TRIS to TRIS inside a MESH. Its measure is what is left of it.
use Prim.Native.Nat.{◌-◌}
use Rattle.b3d_read_triangle_rows.proofs.SetLaws.{SetsLeft}
use Rattle.b3d_read_triangle_rows.proofs.put_sets.Given as goal

abbrev pub invariant-loop-b : goal.invariant-loop-b
invariant-loop-b l = SetsLeft l.file l.initial.c l.mesh l.first l.base l.initial.out l.c l.out l.o l.n

abbrev pub decreases-loop-b : goal.decreases-loop-b
decreases-loop-b l = l.c.end - l.c.at
