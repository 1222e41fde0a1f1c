-- `groups_of` counts one group a turn: the number above falls.
use Rattle.shared_seven_bit_groups.proofs.NumberLaws.{Counting}
use Rattle.shared_seven_bit_groups.proofs.groups_of.Given as goal

abbrev pub invariant-loop-above : goal.invariant-loop-above
invariant-loop-above l = Counting l.n l.count l.above

abbrev pub decreases-loop-above : goal.decreases-loop-above
decreases-loop-above l = l.above
