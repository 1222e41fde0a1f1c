-- `store_bare_rows` goes once over the flat run. Its measure is what is left of the file.
use Prim.Native.Nat.{◌-◌}
use lib.ListN.{length}
use Rattle.b3d_read_node_table.proofs.NodeTableLaws.{TreeLeft}
use Rattle.b3d_read_node_table.proofs.store_bare_rows.Given as goal

abbrev pub invariant-loop-tag : goal.invariant-loop-tag
invariant-loop-tag l = TreeLeft l.file l.initial.out l.out l.at l.nodes l.meshes l.weights

abbrev pub decreases-loop-tag : goal.decreases-loop-tag
decreases-loop-tag l = length l.file - l.at
