-- `store_group` stores the row of a TRIS or a KEYS.
use Rattle.b3d_read_item_rows.proofs.GroupLaws.{group_laws}
use borrow.Author.Rules.{rules}
use Rattle.b3d_read_item_rows.proofs.store_group.Goals as goal

pub first_word-head-requires : goal.first_word-head-requires
first_word-head-requires c = search (group_laws, rules)

pub item_width-width-requires : goal.item_width-width-requires
item_width-width-requires c = search (group_laws, rules)

pub overflow_sub-count : goal.overflow_sub-count
overflow_sub-count c = search (group_laws, rules)

pub overflow_mul-count : goal.overflow_mul-count
overflow_mul-count c = search (group_laws, rules)

pub nonzero_div-count : goal.nonzero_div-count
nonzero_div-count c = search (group_laws, rules)

pub cell-requires : goal.cell-requires
cell-requires c = search (group_laws, rules)

pub cell-requires-2 : goal.cell-requires-2
cell-requires-2 c = search (group_laws, rules)

pub cell-requires-3 : goal.cell-requires-3
cell-requires-3 c = search (group_laws, rules)

pub slice_bounds-put_cells-end : goal.slice_bounds-put_cells-end
slice_bounds-put_cells-end c = search (group_laws, rules)

pub put_cells-requires : goal.put_cells-requires
put_cells-requires c = search (group_laws, rules)

pub shape_of-out : goal.shape_of-out
shape_of-out c = search (group_laws, rules)

pub returns : goal.returns
returns c = search (group_laws, rules)
