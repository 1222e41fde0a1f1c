-- `put_row` stores a row: the cells of a name, words of the file, cells that name nothing.
use Rattle.b3d_read_materials.proofs.StoreLaws.{row_put}
use borrow.Author.Rules.{rules}
use Rattle.b3d_read_materials.proofs.put_row.Goals as goal

pub cell-requires : goal.cell-requires
cell-requires c = search (row_put, rules)

pub cell-requires-2 : goal.cell-requires-2
cell-requires-2 c = search (row_put, rules)

pub slice_bounds-put_cells-end : goal.slice_bounds-put_cells-end
slice_bounds-put_cells-end c = search (row_put, rules)

pub put_cells-requires : goal.put_cells-requires
put_cells-requires c = search (row_put, rules)

pub overflow_add-from : goal.overflow_add-from
overflow_add-from c = search (row_put, rules)

pub copy_words-requires : goal.copy_words-requires
copy_words-requires c = search (row_put, rules)

pub overflow_add-after : goal.overflow_add-after
overflow_add-after c = search (row_put, rules)

pub put_same-requires : goal.put_same-requires
put_same-requires c = search (row_put, rules)

pub overflow_add-result : goal.overflow_add-result
overflow_add-result c = search (row_put, rules)

pub shape_of-out : goal.shape_of-out
shape_of-out c = search (row_put, rules)

pub returns : goal.returns
returns c = search (row_put, rules)
