-- `node_counts` counts on by the cells of the node's rows.
use Rattle.b3d_check_node_counts.proofs.AfterLaws.{after_laws}
use borrow.Author.Rules.{rules}
use Rattle.b3d_check_node_counts.proofs.node_counts.Goals as goal

pub overflow_mul-o : goal.overflow_mul-o
overflow_mul-o c = search (after_laws, rules)

pub overflow_add-o : goal.overflow_add-o
overflow_add-o c = search (after_laws, rules)

pub cell-count-requires : goal.cell-count-requires
cell-count-requires c = search (after_laws, rules)

pub overflow_add-o-2 : goal.overflow_add-o-2
overflow_add-o-2 c = search (after_laws, rules)

pub offset_bounds-t3-o : goal.offset_bounds-t3-o
offset_bounds-t3-o c = search (after_laws, rules)

pub bounds-t3-o : goal.bounds-t3-o
bounds-t3-o c = search (after_laws, rules)

pub kind_counts-m-requires : goal.kind_counts-m-requires
kind_counts-m-requires c = search (after_laws, rules)

pub lists_of-end-requires : goal.lists_of-end-requires
lists_of-end-requires c = search (after_laws, rules)

pub overflow_sub-end : goal.overflow_sub-end
overflow_sub-end c = search (after_laws, rules)

pub end_of-keys-requires : goal.end_of-keys-requires
end_of-keys-requires c = let h = c.requires in search (after_laws, rules)

pub overflow_add-after : goal.overflow_add-after
overflow_add-after c = let h = c.requires in search (after_laws, rules)

pub returns : goal.returns
returns c = let h = c.requires in search (after_laws, rules)
