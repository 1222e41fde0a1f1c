-- `first_over` looks at one number a turn: the first from i on is the first of all.
use Rattle.slip.proofs.SlipWriteLaws.{Looking}
use Rattle.slip.proofs.first_over.Given as goal

abbrev pub invariant-loop-i : goal.invariant-loop-i
invariant-loop-i l = Looking l.numbers l.i
