-- `colour_items` answers the items that `colour_items` finds, counted. The loop has passed whole items with good colours; its measure is
-- what is left.
use Prim.Native.Nat.{◌-◌, ◌+◌}
use Rattle.wire.specs.Cursors.{left}
use Rattle.wire.proofs.LeftLaws.{span}
use Rattle.layout.specs.Rules.{unit}
use Rattle.b3d_judge_items.specs.Items.{colour_items, counted}
use Rattle.b3d_judge_items.proofs.ItemLaws.{Counting}
use Rattle.b3d_judge_colour_items.proofs.colour_items.Given as goal

abbrev pub invariant-loop-at : goal.invariant-loop-at
invariant-loop-at l = Counting l.s l.words unit l.before l.n (l.words - (l.before + l.n)) (span l.initial.at l.end) (counted (colour_items l.before l.n (l.words - (l.before + l.n)) l.initial.at (left (span l.initial.at l.end) l.s))) l.at l.count

abbrev pub decreases-loop-at : goal.decreases-loop-at
decreases-loop-at l = l.end - l.at
