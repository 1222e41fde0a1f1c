-- `store_triangles` goes from TRIS to TRIS inside a MESH. Its measure is what is left of it.
use Prim.Native.Nat.{◌-◌}
use Rattle.b3d_read_triangle_rows.proofs.TriangleLaws.{TrianglesLeft}
use Rattle.b3d_read_triangle_rows.proofs.store_triangles.Given as goal

abbrev pub invariant-loop-b : goal.invariant-loop-b
invariant-loop-b l = TrianglesLeft l.file l.initial.c l.base l.initial.out l.c l.out l.o

abbrev pub decreases-loop-b : goal.decreases-loop-b
decreases-loop-b l = l.c.end - l.c.at
