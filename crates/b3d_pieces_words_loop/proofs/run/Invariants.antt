-- `run` takes the piece's bytes.
use Rattle.b3d_pieces_judge_step.specs.Loops.{left_of}
use Rattle.b3d_pieces_words_loop.proofs.LoopLaws.{Inv}
use Rattle.b3d_pieces_words_loop.proofs.run.Given as goal

abbrev pub invariant-loop-t : goal.invariant-loop-t
invariant-loop-t l = Inv l.initial.row l.piece l.initial.t l.row l.t

abbrev pub decreases-loop-t : goal.decreases-loop-t
decreases-loop-t l = left_of l.t
