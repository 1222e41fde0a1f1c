-- `slip_size` adds up the groups of one number a turn: those from i on are left.
use Rattle.slip.proofs.SlipWriteLaws.{Adding}
use Rattle.slip.proofs.slip_size.Given as goal

abbrev pub invariant-loop-i : goal.invariant-loop-i
invariant-loop-i l = Adding l.numbers l.size l.i
