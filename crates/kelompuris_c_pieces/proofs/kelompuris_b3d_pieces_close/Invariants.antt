-- The loop has weighed the records before one; its measure is how many are left.
use Rattle.b3d_pieces_records_loop.proofs.WeighRoundLaws.{Weighing, weighs_left}
use Rattle.kelompuris_c_pieces.proofs.kelompuris_b3d_pieces_close.Given as goal

abbrev pub invariant-loop-w : goal.invariant-loop-w
invariant-loop-w l = Weighing l.state l.row l.w

abbrev pub decreases-loop-w : goal.decreases-loop-w
decreases-loop-w l = weighs_left l.w
