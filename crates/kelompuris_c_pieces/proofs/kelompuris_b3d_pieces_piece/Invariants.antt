-- The first loop has weighed the records before one; the second has taken bytes of the piece, with the row as it is then. Their measures are the records and the rounds that are left.
use Rattle.b3d_pieces_records_loop.proofs.WeighRoundLaws.{Weighing, weighs_left}
use Rattle.b3d_pieces_records_loop.proofs.PieceRoundLaws.{Inv, rounds_of}
use Rattle.kelompuris_c_pieces.proofs.kelompuris_b3d_pieces_piece.Given as goal

abbrev pub invariant-loop-w : goal.invariant-loop-w
invariant-loop-w l = Weighing l.state l.fn.row l.w

abbrev pub decreases-loop-w : goal.decreases-loop-w
decreases-loop-w l = weighs_left l.w

abbrev pub invariant-loop-t : goal.invariant-loop-t
invariant-loop-t l = Inv l.fn.state l.fn.row l.bytes l.t l.row

abbrev pub decreases-loop-t : goal.decreases-loop-t
decreases-loop-t l = rounds_of l.t
