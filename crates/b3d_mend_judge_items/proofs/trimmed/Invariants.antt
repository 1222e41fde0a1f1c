-- `trimmed` leaves spare bytes out. The loop has passed whole chunks; its measure is what is left.
use Prim.Native.Nat.{◌-◌}
use Rattle.b3d_mend_judge_items.proofs.TrimLaws.{Passing}
use Rattle.b3d_mend_judge_items.proofs.trimmed.Given as goal

abbrev pub invariant-loop-from : goal.invariant-loop-from
invariant-loop-from l = Passing l.s l.initial.c l.c

abbrev pub decreases-loop-from : goal.decreases-loop-from
decreases-loop-from l = l.c.end - l.c.at
