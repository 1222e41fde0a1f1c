-- `parent_at` goes up from the last row to one that is open. Its measure is how many rows are left.
use Rattle.b3d_read_node_parents.proofs.ParentLaws.{ClimbLeft}
use Rattle.b3d_read_node_parents.proofs.parent_at.Given as goal

abbrev pub invariant-loop-i : goal.invariant-loop-i
invariant-loop-i l = ClimbLeft l.file l.rows l.nodes l.p l.i

abbrev pub decreases-loop-i : goal.decreases-loop-i
decreases-loop-i l = l.i
