-- `put_brushes` puts or counts brushes to the end. The loop has put those before a cursor; its measure is what is left.
use Prim.Native.Nat.{◌-◌}
use Rattle.b3d_mend_write_brushes.proofs.ListPutLaws.{Brushes}
use Rattle.b3d_mend_write_brushes.proofs.put_brushes.Given as goal

abbrev pub invariant-loop-c : goal.invariant-loop-c
invariant-loop-c l = Brushes l.file l.slots l.textures l.initial.c l.report l.wet l.initial.out l.start l.out l.c l.at

abbrev pub decreases-loop-c : goal.decreases-loop-c
decreases-loop-c l = l.c.end - l.c.at
