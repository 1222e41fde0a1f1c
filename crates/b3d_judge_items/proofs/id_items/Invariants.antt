-- `id_items` answers the items that `id_items` finds, counted. The loop has passed whole items with good ids; its measure is what is left.
use Prim.Native.Nat.{◌-◌}
use Rattle.wire.specs.Cursors.{left}
use Rattle.wire.proofs.LeftLaws.{span}
use Rattle.layout.specs.Rules.{names}
use Rattle.b3d_judge_items.specs.Items.{id_items, counted}
use Rattle.b3d_judge_items.proofs.ItemLaws.{Counting}
use Rattle.b3d_judge_items.proofs.id_items.Given as goal

abbrev pub invariant-loop-at : goal.invariant-loop-at
invariant-loop-at l = Counting l.s l.words (names l.limit) 0 l.ids (l.words - l.ids) (span l.initial.at l.end) (counted (id_items l.ids (l.words - l.ids) l.limit l.initial.at (left (span l.initial.at l.end) l.s))) l.at l.count

abbrev pub decreases-loop-at : goal.decreases-loop-at
decreases-loop-at l = l.end - l.at
