-- `up_to` is `up_to` on the path that the arrays hold, whatever its nodes say of bones. The loop has passed the nodes from d on.
use Rattle.b3d_check_parents.proofs.PathLaws.{CutFrom}
use Rattle.b3d_check_parents.proofs.up_to.Given as goal

abbrev pub invariant-loop-d : goal.invariant-loop-d
invariant-loop-d l = CutFrom l.path l.ends l.depth l.i l.p l.d
