-- `put_slip` puts one number a turn: those from i on are left.
use Rattle.slip.proofs.SlipWriteLaws.{NumbersLeft}
use Rattle.slip.proofs.put_slip.Given as goal

abbrev pub invariant-loop-i : goal.invariant-loop-i
invariant-loop-i l = NumbersLeft l.numbers l.initial.out l.out l.at l.i
