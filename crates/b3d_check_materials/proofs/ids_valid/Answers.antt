-- `ids_valid` looks at each cell. The loop has passed those before i.
use Rattle.b3d_check_rows.proofs.CellLaws.{cell_laws}
use borrow.Author.Rules.{rules}
use Rattle.b3d_check_materials.proofs.ids_valid.Goals as goal

pub overflow_add-i-end : goal.overflow_add-i-end
overflow_add-i-end c = search (cell_laws, rules)

pub loop-i-init : goal.loop-i-init
loop-i-init c = search (cell_laws, rules)

pub offset_bounds-t-i : goal.offset_bounds-t-i
offset_bounds-t-i c = search (cell_laws, rules)

pub bounds-t-i : goal.bounds-t-i
bounds-t-i c = search (cell_laws, rules)

pub returns-then-not-one-textures : goal.returns-then-not-one-textures
returns-then-not-one-textures c = search (cell_laws, rules)

pub loop-i-preserved : goal.loop-i-preserved
loop-i-preserved c = search (cell_laws, rules)

pub returns : goal.returns
returns c = search (cell_laws, rules)
