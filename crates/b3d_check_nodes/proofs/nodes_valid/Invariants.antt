-- `nodes_valid` looks at each node. The loop has passed those before n's, and the arrays hold the path of the last; its measure is how many are left.
use Prim.Native.Nat.{◌-◌}
use Rattle.b3d_check_node_counts.specs.Parts.{part_rows}
use Rattle.b3d_check_nodes.proofs.NodesLaws.{NodesFrom}
use Rattle.b3d_check_nodes.proofs.nodes_valid.Given as goal

abbrev pub invariant-loop-n : goal.invariant-loop-n
invariant-loop-n l = NodesFrom l.text l.brushes l.initial.n.vertices l.end (part_rows l.all l.t4 l.t5 l.t6 l.t7 l.t8 l.t9 l.t10) l.all l.t3 l.initial.path l.initial.ends l.initial.bones l.initial.n l.path l.ends l.bones l.depth l.n

abbrev pub decreases-loop-n : goal.decreases-loop-n
decreases-loop-n l = l.all.nodes - l.n.nodes
