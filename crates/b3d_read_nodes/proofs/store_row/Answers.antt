-- `store_row` stores the cells of a row, part by part.
use Rattle.b3d_read_nodes.proofs.CellLaws.{row_laws}
use borrow.Author.Rules.{rules}
use Rattle.b3d_read_nodes.proofs.store_row.Goals as goal

pub overflow_add-numbers : goal.overflow_add-numbers
overflow_add-numbers c = search (row_laws, rules)

pub overflow_add-last : goal.overflow_add-last
overflow_add-last c = search (row_laws, rules)

pub cell-requires : goal.cell-requires
cell-requires c = search (row_laws, rules)

pub cell-requires-2 : goal.cell-requires-2
cell-requires-2 c = search (row_laws, rules)

pub slice_bounds-put_cells-end : goal.slice_bounds-put_cells-end
slice_bounds-put_cells-end c = search (row_laws, rules)

pub put_cells-requires : goal.put_cells-requires
put_cells-requires c = search (row_laws, rules)

pub copy_words-requires : goal.copy_words-requires
copy_words-requires c = search (row_laws, rules)

pub part_cells-parts-requires : goal.part_cells-parts-requires
part_cells-parts-requires c = search (row_laws, rules)

pub slice_bounds-put_cells-end-2 : goal.slice_bounds-put_cells-end-2
slice_bounds-put_cells-end-2 c = search (row_laws, rules)

pub put_cells-requires-2 : goal.put_cells-requires-2
put_cells-requires-2 c = search (row_laws, rules)

pub shape_of-out : goal.shape_of-out
shape_of-out c = search (row_laws, rules)

pub returns : goal.returns
returns c = search (row_laws, rules)
