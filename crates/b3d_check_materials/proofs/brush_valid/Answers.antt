-- `brush_valid` answers `brush_valid` of the row by its parts.
use Rattle.b3d_check_rows.proofs.AndLaws.{ands}
use Rattle.b3d_check_materials.proofs.BrushLaws.{brush-parts}
use borrow.Author.Rules.{rules}
use Rattle.b3d_check_materials.proofs.brush_valid.Goals as goal

pub size-many-requires : goal.size-many-requires
size-many-requires c = search (brush-parts, ands, rules)

pub overflow_mul-o : goal.overflow_mul-o
overflow_mul-o c = search (brush-parts, ands, rules)

pub offset_bounds-t-o : goal.offset_bounds-t-o
offset_bounds-t-o c = search (brush-parts, ands, rules)

pub bounds-t-o : goal.bounds-t-o
bounds-t-o c = search (brush-parts, ands, rules)

pub overflow_add-o : goal.overflow_add-o
overflow_add-o c = search (brush-parts, ands, rules)

pub offset_bounds-t-o-2 : goal.offset_bounds-t-o-2
offset_bounds-t-o-2 c = search (brush-parts, ands, rules)

pub bounds-t-o-2 : goal.bounds-t-o-2
bounds-t-o-2 c = search (brush-parts, ands, rules)

pub name_valid-requires : goal.name_valid-requires
name_valid-requires c = search (brush-parts, ands, rules)

pub returns-then-not-name_valid : goal.returns-then-not-name_valid
returns-then-not-name_valid c = search (brush-parts, ands, rules)

pub overflow_add-o-2 : goal.overflow_add-o-2
overflow_add-o-2 c = search (brush-parts, ands, rules)

pub ids_valid-requires : goal.ids_valid-requires
ids_valid-requires c = search (brush-parts, ands, rules)

pub returns-then-not-ids_valid : goal.returns-then-not-ids_valid
returns-then-not-ids_valid c = search (brush-parts, ands, rules)

pub overflow_add-o-3 : goal.overflow_add-o-3
overflow_add-o-3 c = search (brush-parts, ands, rules)

pub overflow_add-o-4 : goal.overflow_add-o-4
overflow_add-o-4 c = search (brush-parts, ands, rules)

pub overflow_sub-many : goal.overflow_sub-many
overflow_sub-many c = search (brush-parts, ands, rules)

pub ids_valid-requires-2 : goal.ids_valid-requires-2
ids_valid-requires-2 c = search (brush-parts, ands, rules)

pub returns : goal.returns
returns c = search (brush-parts, ands, rules)
