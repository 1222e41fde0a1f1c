-- `mesh_head` answers `mesh_row_here` of the row by its cells.
use Rattle.b3d_check_mesh.proofs.MeshLaws.{head-cells}
use borrow.Author.Rules.{rules}
use Rattle.b3d_check_mesh.proofs.mesh_head.Goals as goal

pub overflow_mul-o : goal.overflow_mul-o
overflow_mul-o c = search (head-cells, rules)

pub cell-own-requires : goal.cell-own-requires
cell-own-requires c = search (head-cells, rules)

pub overflow_add-o : goal.overflow_add-o
overflow_add-o c = search (head-cells, rules)

pub cell-from-requires : goal.cell-from-requires
cell-from-requires c = search (head-cells, rules)

pub overflow_add-brush : goal.overflow_add-brush
overflow_add-brush c = search (head-cells, rules)

pub offset_bounds-t-o : goal.offset_bounds-t-o
offset_bounds-t-o c = search (head-cells, rules)

pub bounds-t-o : goal.bounds-t-o
bounds-t-o c = search (head-cells, rules)

pub overflow_add-ranges : goal.overflow_add-ranges
overflow_add-ranges c = search (head-cells, rules)

pub offset_bounds-t-o-2 : goal.offset_bounds-t-o-2
offset_bounds-t-o-2 c = search (head-cells, rules)

pub bounds-t-o-2 : goal.bounds-t-o-2
bounds-t-o-2 c = search (head-cells, rules)

pub overflow_add-ranges-2 : goal.overflow_add-ranges-2
overflow_add-ranges-2 c = search (head-cells, rules)

pub offset_bounds-t-o-3 : goal.offset_bounds-t-o-3
offset_bounds-t-o-3 c = search (head-cells, rules)

pub bounds-t-o-3 : goal.bounds-t-o-3
bounds-t-o-3 c = search (head-cells, rules)

pub overflow_add-ranges-3 : goal.overflow_add-ranges-3
overflow_add-ranges-3 c = search (head-cells, rules)

pub offset_bounds-t-o-4 : goal.offset_bounds-t-o-4
offset_bounds-t-o-4 c = search (head-cells, rules)

pub bounds-t-o-4 : goal.bounds-t-o-4
bounds-t-o-4 c = search (head-cells, rules)

pub returns : goal.returns
returns c = search (head-cells, rules)
