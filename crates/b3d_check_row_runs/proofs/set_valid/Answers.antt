-- `set_valid` answers `set_valid` of the row by its parts.
use Rattle.b3d_check_rows.proofs.AndLaws.{ands}
use Rattle.b3d_check_row_runs.proofs.ItemLaws.{set-parts}
use borrow.Author.Rules.{rules}
use Rattle.b3d_check_row_runs.proofs.set_valid.Goals as goal

pub overflow_mul-o : goal.overflow_mul-o
overflow_mul-o c = search (set-parts, ands, rules)

pub cell-own-requires : goal.cell-own-requires
cell-own-requires c = search (set-parts, ands, rules)

pub overflow_add-brush : goal.overflow_add-brush
overflow_add-brush c = search (set-parts, ands, rules)

pub offset_bounds-t-o : goal.offset_bounds-t-o
offset_bounds-t-o c = search (set-parts, ands, rules)

pub bounds-t-o : goal.bounds-t-o
bounds-t-o c = search (set-parts, ands, rules)

pub returns-then-not-own-mesh : goal.returns-then-not-own-mesh
returns-then-not-own-mesh c = search (set-parts, ands, rules)

pub returns-then-not-brush-brushes : goal.returns-then-not-brush-brushes
returns-then-not-brush-brushes c = search (set-parts, ands, rules)

pub id_rows_valid-requires : goal.id_rows_valid-requires
id_rows_valid-requires c = search (set-parts, ands, rules)

pub returns : goal.returns
returns c = search (set-parts, ands, rules)
