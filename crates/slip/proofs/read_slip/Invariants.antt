-- `read_slip` reads one number a turn: those from i on are left.
use Rattle.slip.proofs.ReadLaws.{SlipLeft}
use Rattle.slip.proofs.read_slip.Given as goal

abbrev pub invariant-loop-i : goal.invariant-loop-i
invariant-loop-i l = SlipLeft l.slip l.numbers l.at l.i
