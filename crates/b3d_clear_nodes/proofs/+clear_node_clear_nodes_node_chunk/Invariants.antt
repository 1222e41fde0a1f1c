-- A node, its chunk and the list of nodes below it, which call each other: the levels left fall. The loop's measure is what is left.
use Prim.Native.Nat.{◌*◌, ◌+◌, ◌-◌}
use Rattle.b3d_spec.specs.declared.Tag.TheVariants.{NODE}
use Rattle.b3d_clear_spec.specs.Copies.{node_copy}
use Rattle.b3d_clear_copied_chunks.proofs.EachChunkLaws.{EachLeft}
use Rattle.b3d_clear_nodes.proofs.+clear_node_clear_nodes_node_chunk.Given as goal

-- clear_nodes
abbrev pub invariant-clear_nodes-loop-at : goal.invariant-clear_nodes-loop-at
invariant-clear_nodes-loop-at l = EachLeft l.file NODE (node_copy l.levels) l.initial.c l.initial.out l.out l.c l.n

-- clear_nodes
abbrev pub decreases-clear_nodes-loop-at : goal.decreases-clear_nodes-loop-at
decreases-clear_nodes-loop-at l = l.c.end - l.c.at

abbrev pub decreases-clear_node : goal.decreases-clear_node
decreases-clear_node l = 3 * l.levels

abbrev pub decreases-clear_nodes : goal.decreases-clear_nodes
decreases-clear_nodes l = 3 * l.levels + 1

abbrev pub decreases-node_chunk : goal.decreases-node_chunk
decreases-node_chunk l = 3 * l.levels + 2
