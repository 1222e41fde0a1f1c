-- A node and its list of children, which call each other: the levels left fall. The loop's measure is what is left.
use Prim.Native.Nat.{◌*◌, ◌+◌, ◌-◌}
use Rattle.b3d_mend_judge_items.specs.Lax.{lax_node}
use Rattle.b3d_judge_node.specs.Answers.{above_of}
use Rattle.b3d_mend_judge_tree.proofs.NodeLaws.{Noding}
use Rattle.b3d_mend_judge_tree.proofs.+lax_node_lax_nodes.Given as goal

-- lax_nodes
abbrev pub invariant-lax_nodes-loop-p : goal.invariant-lax_nodes-loop-p
invariant-lax_nodes-loop-p l = Noding l.s l.at (lax_node l.levels (above_of l.above)) l.initial.c l.c l.q l.m

-- lax_nodes
abbrev pub decreases-lax_nodes-loop-p : goal.decreases-lax_nodes-loop-p
decreases-lax_nodes-loop-p l = l.c.end - l.c.at

abbrev pub decreases-lax_node : goal.decreases-lax_node
decreases-lax_node l = 2 * l.levels

abbrev pub decreases-lax_nodes : goal.decreases-lax_nodes
decreases-lax_nodes l = 2 * l.levels + 1
