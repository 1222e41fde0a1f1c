-- `textures_valid` looks at each row. The loop has passed those before i.
use Rattle.b3d_check_rows.proofs.LoopLaws.{all_laws}
use Rattle.b3d_check_rows.proofs.RowLaws.{name-row}
use borrow.Author.Rules.{rules}
use Rattle.b3d_check_materials.proofs.textures_valid.Goals as goal

pub loop-i-init : goal.loop-i-init
loop-i-init c = search (all_laws, name-row, rules)

pub overflow_mul-o : goal.overflow_mul-o
overflow_mul-o c = search (all_laws, name-row, rules)

pub offset_bounds-t-o : goal.offset_bounds-t-o
offset_bounds-t-o c = search (all_laws, name-row, rules)

pub bounds-t-o : goal.bounds-t-o
bounds-t-o c = search (all_laws, name-row, rules)

pub overflow_add-o : goal.overflow_add-o
overflow_add-o c = search (all_laws, name-row, rules)

pub offset_bounds-t-o-in-loop-i : goal.offset_bounds-t-o-in-loop-i
offset_bounds-t-o-in-loop-i c = search (all_laws, name-row, rules)

pub bounds-t-o-in-loop-i : goal.bounds-t-o-in-loop-i
bounds-t-o-in-loop-i c = search (all_laws, name-row, rules)

pub name_valid-requires : goal.name_valid-requires
name_valid-requires c = search (all_laws, name-row, rules)

pub returns-then-not-name_valid : goal.returns-then-not-name_valid
returns-then-not-name_valid c = search (all_laws, name-row, rules)

pub loop-i-preserved : goal.loop-i-preserved
loop-i-preserved c = search (all_laws, name-row, rules)

pub returns : goal.returns
returns c = search (all_laws, name-row, rules)
