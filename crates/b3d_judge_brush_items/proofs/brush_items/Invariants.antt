-- `brush_items` answers the brushes that `read_brush` finds, counted. The loop has passed whole brushes with good colours and ids; its
-- measure is what is left.
use Prim.Native.Nat.{◌-◌}
use Rattle.b3d_judge_brush_items.proofs.BrushLaws.{Brushes}
use Rattle.b3d_judge_brush_items.proofs.brush_items.Given as goal

abbrev pub invariant-loop-c : goal.invariant-loop-c
invariant-loop-c l = Brushes l.mode l.slots l.textures l.s l.initial.c l.c l.count

abbrev pub decreases-loop-c : goal.decreases-loop-c
decreases-loop-c l = l.c.end - l.c.at
