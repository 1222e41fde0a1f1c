-- `zeros` answers as many zeros.
use Prim.Native.Nat.{ℕ}
use lib.ListN.{length-replicate}
use Rattle.cal3d_skeleton_tree_check.proofs.ClimbLaws.{zeros_none}
use Rattle.cal3d_skeleton_tree_check.proofs.zeros.Goals as goal

pub returns : goal.returns
returns c = (length-replicate {A = ℕ} 16383 0, zeros_none 16383)
