-- `lax_sets` judges the TRIS of a mesh. The loop is at a cursor, with how far the chunks have come and the tally of the sets before; its measure is what is left.
use Prim.Native.Nat.{◌-◌}
use Rattle.b3d_mend_judge_mesh.proofs.SetLaws.{Setting}
use Rattle.b3d_mend_judge_mesh.proofs.lax_sets.Given as goal

abbrev pub invariant-loop-p : goal.invariant-loop-p
invariant-loop-p l = Setting l.s l.at l.vertices l.initial.c l.c l.q l.m

abbrev pub decreases-loop-p : goal.decreases-loop-p
decreases-loop-p l = l.c.end - l.c.at
