-- `put_numbers` puts one number a turn: those from i on are left.
use Rattle.b3d_compare_entries.proofs.EntryLaws.{NumbersLeft}
use Rattle.b3d_compare_entries.proofs.put_numbers.Given as goal

abbrev pub invariant-loop-i : goal.invariant-loop-i
invariant-loop-i l = NumbersLeft l.ns l.wet l.initial.out l.at l.out l.next l.i
