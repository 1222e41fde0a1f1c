-- `triangle_valid` answers `keeps` of the row by its cells.
use Rattle.b3d_check_rows.proofs.RowLaws.{triangle-row}
use borrow.Author.Rules.{rules}
use Rattle.b3d_check_rows.proofs.triangle_valid.Goals as goal

pub overflow_mul-o : goal.overflow_mul-o
overflow_mul-o c = search (triangle-row, rules)

pub offset_bounds-t-o : goal.offset_bounds-t-o
offset_bounds-t-o c = search (triangle-row, rules)

pub bounds-t-o : goal.bounds-t-o
bounds-t-o c = search (triangle-row, rules)

pub overflow_add-result : goal.overflow_add-result
overflow_add-result c = search (triangle-row, rules)

pub offset_bounds-t-o-2 : goal.offset_bounds-t-o-2
offset_bounds-t-o-2 c = search (triangle-row, rules)

pub bounds-t-o-2 : goal.bounds-t-o-2
bounds-t-o-2 c = search (triangle-row, rules)

pub overflow_add-result-2 : goal.overflow_add-result-2
overflow_add-result-2 c = search (triangle-row, rules)

pub offset_bounds-t-o-3 : goal.offset_bounds-t-o-3
offset_bounds-t-o-3 c = search (triangle-row, rules)

pub bounds-t-o-3 : goal.bounds-t-o-3
bounds-t-o-3 c = search (triangle-row, rules)

pub returns : goal.returns
returns c = search (triangle-row, rules)
