-- `nodes_valid` looks at each node. The loop has passed those before n's, and the arrays hold the path of the last; its measure is how many are left.
use Rattle.std.proofs.Common.{ap, not}
use Prim.Native.Nat.{◌-◌}
use native.Mathlib.Omega.{arith}
use mathlib.Core.Path.{refl}
use Rattle.b3d_check_nodes.proofs.NodesLaws.{nodes_none, nodes_open, nodes_done, nodes_wrong, nodes_deep, nodes_stop, path_there, ends_there, level_above, level_below, cell_there, nodes-after, nodes-small, bones_grow, bones-small, nodes-less, nodes_next}
use borrow.Author.Rules.{rules}
use Rattle.b3d_check_nodes.proofs.nodes_valid.Goals as goal

pub cell-requires : goal.cell-requires
cell-requires c = let h = c.requires in omega (arith, h.below.0.vertices, h.limited.0.vertices)

pub loop-n-init : goal.loop-n-init
loop-n-init c = nodes_none _ _ _ _ _ _ _ _ _ _ _ _ _ _ _ _ _ c.requires.below.0 (search rules) (search rules) (search rules) refl refl c.cell.ensures

pub parent-p-requires : goal.parent-p-requires
parent-p-requires c = cell_there 2 _ _ _ c.loop-n-test.true c.requires.limited.1 (omega arith)

pub up_to-d-requires : goal.up_to-d-requires
up_to-d-requires c = (path_there _ _ _ _ _ _ _ _ _ _ _ _ _ _ _ _ _ _ _ _ _ _ c.loop-n.invariant, ends_there _ _ _ _ _ _ _ _ _ _ _ _ _ _ _ _ _ _ _ _ _ _ c.loop-n.invariant)

pub returns-then-d-le0 : goal.returns-then-d-le0
returns-then-d-le0 c = nodes_wrong _ _ _ _ _ _ _ _ _ _ _ _ _ _ _ _ _ _ _ _ _ _ c.loop-n.invariant c.loop-n-test.true _ c.parent-p.ensures _ c.up_to-d.ensures c.if-d-le0.true

pub returns-then-d-ge-LEVELS : goal.returns-then-d-ge-LEVELS
returns-then-d-ge-LEVELS c = nodes_deep _ _ _ _ _ _ _ _ _ _ _ _ _ _ _ _ _ _ _ _ _ _ c.loop-n.invariant c.loop-n-test.true _ c.parent-p.ensures _ c.up_to-d.ensures c.if-d-le0.false _ c.if-d-ge-LEVELS.true tt

pub overflow_sub-told : goal.overflow_sub-told
overflow_sub-told c = c.if-d-le0.false

pub bounds-bones-d : goal.bounds-bones-d
bounds-bones-d c = level_above _ _ c.if-d-ge-LEVELS.false

pub node_valid-requires : goal.node_valid-requires
node_valid-requires c = record { below = (c.loop-n.invariant.below, c.requires.below.1); nodes_lt_nodes = (c.loop-n-test.true, c.requires.limited.1, c.requires.limited.2) }

pub returns-then-not-node_valid : goal.returns-then-not-node_valid
returns-then-not-node_valid c = nodes_stop _ _ _ _ _ _ _ _ _ _ _ _ _ _ _ _ _ _ _ _ _ _ c.loop-n.invariant c.loop-n-test.true _ c.parent-p.ensures _ c.up_to-d.ensures c.if-d-le0.false c.if-d-ge-LEVELS.false _ refl _ c.node_valid.ensures (ap not c.if-not-node_valid.true)

pub node_counts-m-requires : goal.node_counts-m-requires
node_counts-m-requires c = let h = c.requires in let i = c.loop-n.invariant.below in record { below = (i, h.limited.0, c.loop-n-test.true, h.limited.1); meshes_in_bounds = (h.below.1.room₄, h.below.1.room₆, h.limited.2.room₉); below_2 = nodes-after _ _ _ _ _ _ _ _ _ _ _ _ _ i c.loop-n-test.true _ c.node_valid.ensures (ap not c.if-not-node_valid.false) }

pub bounds-path-d : goal.bounds-path-d
bounds-path-d c = c.if-d-ge-LEVELS.false

pub branch_end-requires : goal.branch_end-requires
branch_end-requires c = (nodes-small _ c.requires.limited.0 _ c.loop-n-test.true, cell_there 20 _ _ _ c.loop-n-test.true c.requires.limited.1 (omega arith))

pub bounds-ends-d : goal.bounds-ends-d
bounds-ends-d c = c.if-d-ge-LEVELS.false

pub bones_below-requires : goal.bones_below-requires
bones_below-requires c = (cell_there 16 _ _ _ c.loop-n-test.true c.requires.limited.1 (omega arith), bones_grow _ _ _ _ _ _ _ c.node_counts-m.ensures, bones-small _ _ _ _ _ _ _ _ _ _ _ _ _ c.loop-n.invariant.below c.loop-n-test.true _ c.node_valid.ensures (ap not c.if-not-node_valid.false) _ c.node_counts-m.ensures c.requires.limited.0)

pub bounds-bones-d-in-loop-n : goal.bounds-bones-d-in-loop-n
bounds-bones-d-in-loop-n c = c.if-d-ge-LEVELS.false

pub overflow_add-depth : goal.overflow_add-depth
overflow_add-depth c = level_below _ c.if-d-ge-LEVELS.false

pub loop-n-smaller : goal.loop-n-smaller
loop-n-smaller c = nodes-less _ _ _ _ _ _ _ c.node_counts-m.ensures c.loop-n-test.true

pub loop-n-preserved : goal.loop-n-preserved
loop-n-preserved c = nodes_next _ _ _ _ _ _ _ _ _ _ _ _ _ _ _ _ _ _ _ _ _ _ c.loop-n.invariant c.loop-n-test.true _ c.parent-p.ensures _ c.up_to-d.ensures c.if-d-le0.false c.if-d-ge-LEVELS.false _ refl _ c.node_valid.ensures (ap not c.if-not-node_valid.false) _ c.node_counts-m.ensures _ c.branch_end.ensures _ c.bones_below.ensures

pub all_end-requires : goal.all_end-requires
all_end-requires c = ends_there _ _ _ _ _ _ _ _ _ _ _ _ _ _ _ _ _ _ _ _ _ _ c.loop-n.invariant

pub returns-then-not-all_end : goal.returns-then-not-all_end
returns-then-not-all_end c = nodes_open _ _ _ _ _ _ _ _ _ _ _ _ _ _ _ _ _ _ _ _ _ _ c.loop-n.invariant c.loop-n-test.false _ c.all_end.ensures (ap not c.if-not-all_end.true)

pub returns : goal.returns
returns c = nodes_done _ _ _ _ _ _ _ _ _ _ _ _ _ _ _ _ _ _ _ _ _ _ c.loop-n.invariant c.loop-n-test.false _ c.all_end.ensures (ap not c.if-not-all_end.false) _ c.ended.ensures
