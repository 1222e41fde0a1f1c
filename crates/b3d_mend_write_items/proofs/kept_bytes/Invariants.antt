-- `kept_bytes` counts the bytes of the items that stay. The loop has passed some of them; its measure is what is left.
use Prim.Native.Nat.{◌-◌}
use Rattle.wire.proofs.LeftLaws.{span}
use Rattle.b3d_mend_write_items.specs.Runs.{Stay}
use Rattle.b3d_mend_write_items.proofs.kept_bytes.Given as goal

abbrev pub invariant-loop-n : goal.invariant-loop-n
invariant-loop-n l = Stay l.file l.words l.ids l.limit (span l.from l.end) l.n

abbrev pub decreases-loop-n : goal.decreases-loop-n
decreases-loop-n l = l.end - l.from - l.n
