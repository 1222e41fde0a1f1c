-- `close` takes nodes that ended off the end of the path.
use Rattle.b3d_rows_nodes.proofs.NodeStackLaws.{CloseLeft}
use Rattle.b3d_rows_nodes.proofs.close.Given as goal

abbrev pub invariant-loop-d : goal.invariant-loop-d
invariant-loop-d l = CloseLeft l.ends l.depth l.p l.d
