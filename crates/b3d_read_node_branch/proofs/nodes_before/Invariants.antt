-- `nodes_before` counts NODEs until one begins at the end or behind it. Its measure is what is left of the file.
use Prim.Native.Nat.{◌-◌}
use lib.ListN.{length}
use Rattle.b3d_read_node_branch.proofs.Laws.{BeforeLeft}
use Rattle.b3d_read_node_branch.proofs.nodes_before.Given as goal

abbrev pub invariant-loop-chunk : goal.invariant-loop-chunk
invariant-loop-chunk l = BeforeLeft l.file l.end l.initial.at l.at l.count

abbrev pub decreases-loop-chunk : goal.decreases-loop-chunk
decreases-loop-chunk l = length l.file - l.at
