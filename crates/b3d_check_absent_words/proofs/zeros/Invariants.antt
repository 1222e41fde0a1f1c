-- `zeros` looks at every word. The loop has looked at the first i.
use lib.ListN.{get_or}
use lib.Dec.{eqb}
use Rattle.b3d_check_absent_words.proofs.CleanRowLaws.{EveryFrom}
use Rattle.b3d_check_absent_words.proofs.zeros.Given as goal

abbrev pub invariant-loop-i : goal.invariant-loop-i
invariant-loop-i l = EveryFrom (λ j. eqb (get_or l.t j 0) 0) 1 l.n l.at l.ok l.i
