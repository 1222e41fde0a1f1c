-- `put_numbers` puts a number and what follows it a turn: those from i on are left.
use lib.ListN.{length}
use Rattle.b3d_list_text.proofs.TextLaws.{Numbering}
use Rattle.b3d_list_text.proofs.put_numbers.Given as goal

abbrev pub invariant-loop-i : goal.invariant-loop-i
invariant-loop-i l = Numbering l.numbers l.initial.out l.at l.out l.next l.i
