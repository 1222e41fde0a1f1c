-- A node and a list of nodes, which call each other: the levels left fall. The loop's measure is how many rows of nodes are left.
use Prim.Native.Nat.{◌+◌, ◌-◌, ◌*◌}
use Rattle.b3d_write_node.specs.Own.{table_rows}
use Rattle.b3d_write_nodes.proofs.NodesLaws.{NodesLeft}
use Rattle.b3d_write_nodes.proofs.+write_node_write_nodes.Given as goal

abbrev pub invariant-write_nodes-loop-m : goal.invariant-write_nodes-loop-m
invariant-write_nodes-loop-m l = NodesLeft l.names (table_rows l.t3 l.t4 l.t5 l.t6 l.t7 l.t8 l.t9 l.t10) l.levels l.parent l.initial.m l.initial.out l.out l.size l.m

abbrev pub decreases-write_nodes-loop-m : goal.decreases-write_nodes-loop-m
decreases-write_nodes-loop-m l = l.all.nodes - l.m.nodes

abbrev pub decreases-write_node : goal.decreases-write_node
decreases-write_node l = 2 * l.levels

abbrev pub decreases-write_nodes : goal.decreases-write_nodes
decreases-write_nodes l = 2 * l.levels + 1
