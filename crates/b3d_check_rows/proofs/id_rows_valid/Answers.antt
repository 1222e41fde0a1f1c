-- `id_rows_valid` looks at each row. The loop has passed those before i.
use Rattle.b3d_check_rows.proofs.RowCellLaws.{row_room}
use Rattle.b3d_check_rows.proofs.RowLaws.{id-fits}
use Rattle.b3d_check_rows.proofs.LoopLaws.{all_laws}
use borrow.Author.Rules.{rules}
use Rattle.b3d_check_rows.proofs.id_rows_valid.Goals as goal

pub overflow_add-i-end : goal.overflow_add-i-end
overflow_add-i-end c = search (id-fits, rules)

pub loop-i-init : goal.loop-i-init
loop-i-init c = search (all_laws, rules)

pub id_row_valid-requires : goal.id_row_valid-requires
id_row_valid-requires c = search (row_room, rules)

pub returns-then-not-id_row_valid : goal.returns-then-not-id_row_valid
returns-then-not-id_row_valid c = search (all_laws, rules)

pub loop-i-preserved : goal.loop-i-preserved
loop-i-preserved c = search (all_laws, rules)

pub returns : goal.returns
returns c = search (all_laws, rules)
