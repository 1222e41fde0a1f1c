-- A node and its list of children, which call each other: the levels left fall. The loop's measure is what is left.
use Prim.Native.Nat.{◌+◌, ◌-◌, ◌*◌}
use Rattle.b3d_spec.specs.Parse.{read_node}
use Rattle.b3d_judge_node.specs.Answers.{above_of}
use Rattle.b3d_judge_nodes.proofs.NodeLaws.{Noding}
use Rattle.b3d_judge_nodes.proofs.+judge_node_judge_nodes.Given as goal

-- judge_nodes
abbrev pub invariant-judge_nodes-loop-p : goal.invariant-judge_nodes-loop-p
invariant-judge_nodes-loop-p l = Noding l.s l.at (read_node l.mode l.levels l.brushes (above_of l.above)) l.initial.c l.c l.q l.m

-- judge_nodes
abbrev pub decreases-judge_nodes-loop-p : goal.decreases-judge_nodes-loop-p
decreases-judge_nodes-loop-p l = l.c.end - l.c.at

abbrev pub decreases-judge_node : goal.decreases-judge_node
decreases-judge_node l = 2 * l.levels

abbrev pub decreases-judge_nodes : goal.decreases-judge_nodes
decreases-judge_nodes l = 2 * l.levels + 1
