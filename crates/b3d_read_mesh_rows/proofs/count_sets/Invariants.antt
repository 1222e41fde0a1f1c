-- `count_sets` goes from TRIS to TRIS. Its measure is what is left.
use Prim.Native.Nat.{◌-◌}
use Rattle.b3d_read_mesh_rows.proofs.MeshLaws.{CountLeft}
use Rattle.b3d_read_mesh_rows.proofs.count_sets.Given as goal

abbrev pub invariant-loop-next : goal.invariant-loop-next
invariant-loop-next l = CountLeft l.file l.initial.c l.c l.n

abbrev pub decreases-loop-next : goal.decreases-loop-next
decreases-loop-next l = l.c.end - l.c.at
