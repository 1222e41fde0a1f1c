-- `tree_valid` looks at the root, then at the nodes below it.
use Rattle.std.proofs.Common.{ap, not}
use native.Mathlib.Omega.{arith}
use Rattle.b3d_check_root.proofs.TreeLaws.{tree-empty, tree_wrong, tree_node, root-after, root_below, tree-nodes}
use Rattle.b3d_check_nodes.proofs.NodesLaws.{cell_there}
use borrow.Author.Rules.{rules}
use Rattle.b3d_check_root.proofs.tree_valid.Goals as goal

pub returns-then-all-le0 : goal.returns-then-all-le0
returns-then-all-le0 c = search (tree-empty, rules)

pub returns-then-not-t3 : goal.returns-then-not-t3
returns-then-not-t3 c = search (tree_wrong, rules)

pub returns-then-not-node_valid : goal.returns-then-not-node_valid
returns-then-not-node_valid c = search (tree_node, rules)

pub node_counts-m-requires : goal.node_counts-m-requires
node_counts-m-requires c = let h = c.requires in record { below = (search rules, h.limited.0, search rules, h.nodes_in_bounds.0); meshes_in_bounds = (h.limited.1.room₄, h.limited.1.room₆, h.nodes_in_bounds.1.room₉); below_2 = root-after _ _ _ _ _ _ _ _ _ _ _ (search rules) _ c.node_valid.ensures (ap not c.if-not-node_valid.false) }

pub branch_end-end-requires : goal.branch_end-end-requires
branch_end-end-requires c = (omega arith, cell_there 20 0 _ _ c.if-all-le0.false c.requires.nodes_in_bounds.0 (omega arith))

pub nodes_valid-requires : goal.nodes_valid-requires
nodes_valid-requires c = let h = c.requires in
    record { below = (root_below _ _ _ _ _ _ _ _ _ _ _ (search rules) _ c.node_valid.ensures (search rules) _ c.node_counts-m.ensures, h.limited.1); limited = (h.limited.0, h.nodes_in_bounds.0, h.nodes_in_bounds.1) }

pub returns : goal.returns
returns c = search (tree-nodes, rules)
