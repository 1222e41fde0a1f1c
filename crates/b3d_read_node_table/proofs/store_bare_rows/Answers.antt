-- `store_bare_rows` goes once over the flat run. Its measure is what is left of the file.
use Prim.Native.Nat.{◌-◌}
use Rattle.b3d_read_node_table.proofs.NodeTableLaws.{more_nodes, tree_laws}
use borrow.Author.Rules.{rules}
use Rattle.b3d_read_node_table.proofs.store_bare_rows.Goals as goal

pub returns-then-end-lt12 : goal.returns-then-end-lt12
returns-then-end-lt12 c = search (tree_laws, rules)

pub loop-tag-init : goal.loop-tag-init
loop-tag-init c = search (tree_laws, rules)

pub next_chunk-requires : goal.next_chunk-requires
next_chunk-requires c = search (tree_laws, rules)

pub enum_told-1 : goal.enum_told-1
enum_told-1 c = search (tree_laws, rules)

pub shape_of-out-in-Done : goal.shape_of-out-in-Done
shape_of-out-in-Done c = search (tree_laws, rules)

pub returns-in-Done : goal.returns-in-Done
returns-in-Done c = search (tree_laws, rules)

pub enum_told-in-Cut : goal.enum_told-in-Cut
enum_told-in-Cut c = search (tree_laws, rules)

pub shape_of-out-in-Cut : goal.shape_of-out-in-Cut
shape_of-out-in-Cut c = search (tree_laws, rules)

pub returns-in-Cut : goal.returns-in-Cut
returns-in-Cut c = search (tree_laws, rules)

pub enum_known-tag : goal.enum_known-tag
enum_known-tag c = search (tree_laws, rules)

pub same-requires : goal.same-requires
same-requires c = search (tree_laws, rules)

pub named_row-requires : goal.named_row-requires
named_row-requires c = search (tree_laws, rules)

pub parent_at-parent-requires : goal.parent_at-parent-requires
parent_at-parent-requires c = search (tree_laws, rules)

pub overflow_mul-base : goal.overflow_mul-base
overflow_mul-base c = search (tree_laws, rules)

pub store_row-requires : goal.store_row-requires
store_row-requires c = (search tree_laws, search tree_laws, search rules, search tree_laws, search tree_laws, search tree_laws)

pub overflow_add-nodes : goal.overflow_add-nodes
overflow_add-nodes c = more_nodes _ _ _ _ _ _ _ c.loop-tag.invariant c.requires.0

pub same-requires-else-same : goal.same-requires-else-same
same-requires-else-same c = search (tree_laws, rules)

pub overflow_add-meshes : goal.overflow_add-meshes
overflow_add-meshes c = search (tree_laws, rules)

pub same-requires-else-same-2 : goal.same-requires-else-same-2
same-requires-else-same-2 c = search (tree_laws, rules)

pub overflow_sub-weights : goal.overflow_sub-weights
overflow_sub-weights c = search (tree_laws, rules)

pub overflow_add-weights : goal.overflow_add-weights
overflow_add-weights c = search (tree_laws, rules)

pub loop-tag-smaller-then-same-2 : goal.loop-tag-smaller-then-same-2
loop-tag-smaller-then-same-2 c = search (tree_laws, rules)

pub loop-tag-preserved-then-same-2 : goal.loop-tag-preserved-then-same-2
loop-tag-preserved-then-same-2 c = search (tree_laws, rules)

pub loop-tag-smaller-then-same-3 : goal.loop-tag-smaller-then-same-3
loop-tag-smaller-then-same-3 c = search (tree_laws, rules)

pub loop-tag-preserved-then-same-3 : goal.loop-tag-preserved-then-same-3
loop-tag-preserved-then-same-3 c = search (tree_laws, rules)

pub loop-tag-smaller : goal.loop-tag-smaller
loop-tag-smaller c = search (tree_laws, rules)

pub loop-tag-preserved : goal.loop-tag-preserved
loop-tag-preserved c = search (tree_laws, rules)

pub returns-in_default : goal.returns-in_default
returns-in_default c = search (tree_laws, rules)

pub loop-tag-preserved-then-same : goal.loop-tag-preserved-then-same
loop-tag-preserved-then-same c = search (tree_laws, rules)
