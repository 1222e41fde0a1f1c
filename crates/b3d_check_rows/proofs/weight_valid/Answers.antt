-- `weight_valid` answers `keeps` of the row by its cells.
use Rattle.b3d_check_rows.proofs.RowLaws.{weight-row}
use borrow.Author.Rules.{rules}
use Rattle.b3d_check_rows.proofs.weight_valid.Goals as goal

pub overflow_mul-result : goal.overflow_mul-result
overflow_mul-result c = search (weight-row, rules)

pub offset_bounds-t-i : goal.offset_bounds-t-i
offset_bounds-t-i c = search (weight-row, rules)

pub bounds-t-i : goal.bounds-t-i
bounds-t-i c = search (weight-row, rules)

pub returns : goal.returns
returns c = search (weight-row, rules)
