-- `kept_items` counts the items that `lax_items` leaves. The loop has passed whole items; its measure is what is left.
use Prim.Native.Nat.{◌-◌}
use Rattle.wire.specs.Cursors.{left}
use Rattle.wire.proofs.LeftLaws.{span}
use Rattle.shared_ids.specs.Ids.{id_row}
use Rattle.b3d_judge_items.specs.Items.{counted}
use Rattle.b3d_mend_judge_items.specs.Lax.{lax_items}
use Rattle.b3d_mend_judge_items.proofs.KeepLaws.{Keeping}
use Rattle.b3d_mend_judge_items.proofs.kept_items.Given as goal

abbrev pub invariant-loop-at : goal.invariant-loop-at
invariant-loop-at l = Keeping l.s l.words (id_row l.ids (l.words - l.ids) l.limit) (span l.initial.at l.end) (counted (lax_items (id_row l.ids (l.words - l.ids) l.limit) l.initial.at (left (span l.initial.at l.end) l.s))) l.at l.count

abbrev pub decreases-loop-at : goal.decreases-loop-at
decreases-loop-at l = l.end - l.at
