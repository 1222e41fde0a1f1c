-- `gather` takes the next bytes of a number.
use Rattle.b3d_pieces_skip_numbers.proofs.NumberLaws.{Gathering}
use Rattle.b3d_pieces_skip_numbers.proofs.numbers.gather.Given as goal

abbrev pub invariant-loop-from : goal.invariant-loop-from
invariant-loop-from l = Gathering l.piece l.last l.x l.stop l.from l.j l.acc
