-- `find_node` passes chunks until it meets a NODE. Its measure is what is left.
use Prim.Native.Nat.{◌-◌}
use lib.ListN.{length}
use Rattle.b3d_rows_nodes.proofs.FindNodeLaws.{FindLeft}
use Rattle.b3d_rows_nodes.proofs.find_node.Given as goal

abbrev pub invariant-loop-chunk : goal.invariant-loop-chunk
invariant-loop-chunk l = FindLeft l.file l.from l.meshes l.weights l.at l.m l.w

abbrev pub decreases-loop-chunk : goal.decreases-loop-chunk
decreases-loop-chunk l = length l.file - l.at
