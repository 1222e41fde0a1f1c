-- `put_items` puts or counts items to the end. The loop has put those before a place; its measure is what is left.
use Prim.Native.Nat.{◌-◌}
use Rattle.wire.proofs.LeftLaws.{span}
use Rattle.b3d_mend_write_items.proofs.ItemPutLaws.{Items}
use Rattle.b3d_mend_write_items.proofs.put_items.Given as goal

abbrev pub invariant-loop-p : goal.invariant-loop-p
invariant-loop-p l = Items l.file l.words l.ids l.limit (span l.initial.p l.end) l.report l.wet l.initial.out l.start l.out l.p l.at

abbrev pub decreases-loop-p : goal.decreases-loop-p
decreases-loop-p l = l.end - l.p
