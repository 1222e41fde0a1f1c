-- `find_set` goes from TRIS to TRIS, then to the next MESH. Its measure is what is left to be looked at.
use Rattle.b3d_rows_chunks.proofs.NextSetLaws.{FindLeft}
use Rattle.b3d_rows_positions.specs.Positions.{left_over}
use Rattle.b3d_rows_chunks.proofs.find_set.Given as goal

abbrev pub invariant-loop-set : goal.invariant-loop-set
invariant-loop-set l = FindLeft l.file l.initial.x l.x

abbrev pub decreases-loop-set : goal.decreases-loop-set
decreases-loop-set l = left_over l.file l.x
