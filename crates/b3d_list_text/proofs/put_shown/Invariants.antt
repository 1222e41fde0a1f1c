-- `put_shown` puts one byte a turn: those behind the index are left.
use lib.ListN.{length}
use Rattle.b3d_list_text.proofs.TextLaws.{Showing}
use Rattle.b3d_list_text.proofs.put_shown.Given as goal

abbrev pub invariant-loop-byte : goal.invariant-loop-byte
invariant-loop-byte l = Showing l.text l.initial.out l.at l.out l.next l.byte-index
