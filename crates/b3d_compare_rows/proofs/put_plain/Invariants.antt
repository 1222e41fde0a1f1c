-- `put_plain` puts one word a turn: those from w on are left.
use Rattle.b3d_compare_rows.proofs.PutLaws.{WordsLeft}
use Rattle.b3d_compare_rows.proofs.put_plain.Given as goal

abbrev pub invariant-loop-w : goal.invariant-loop-w
invariant-loop-w l = WordsLeft l.k l.r l.x l.y l.wet l.initial.out l.at l.from l.out l.next l.w
