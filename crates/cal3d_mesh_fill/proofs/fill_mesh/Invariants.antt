-- `fill_mesh` goes from submesh to submesh. Facts that lie far back are named.
use Rattle.cal3d_mesh_fill.proofs.FillLaws.{MeshLeft}
use Rattle.cal3d_mesh_fill.proofs.fill_mesh.Given as goal

abbrev pub invariant-loop-i : goal.invariant-loop-i
invariant-loop-i l = MeshLeft l.s l.initial.submeshes l.initial.vertices l.initial.maps l.initial.influences l.initial.springs l.initial.faces l.count l.submeshes l.vertices l.maps l.influences l.springs l.faces l.m l.i
