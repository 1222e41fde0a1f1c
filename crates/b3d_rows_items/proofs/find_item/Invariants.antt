-- `find_item` goes from chunk to chunk until an item is there. Its measure is what is left to be looked at.
use Rattle.b3d_rows_items.proofs.NextItemLaws.{FindLeft}
use Rattle.b3d_rows_positions.specs.Positions.{left_over}
use Rattle.b3d_rows_items.proofs.find_item.Given as goal

abbrev pub invariant-loop-x : goal.invariant-loop-x
invariant-loop-x l = FindLeft l.k l.file l.initial.x l.x

abbrev pub decreases-loop-x : goal.decreases-loop-x
decreases-loop-x l = left_over l.file l.x
