-- `keys_clean` looks at each row. The loop has passed those before i.
use Rattle.b3d_check_rows.proofs.LoopLaws.{all_laws}
use Rattle.b3d_check_rows.proofs.RowCellLaws.{row_room, row_fits}
use Rattle.b3d_check_absent_words.proofs.CleanRowLaws.{clean-row}
use borrow.Author.Rules.{rules}
use Rattle.b3d_check_absent_words.proofs.keys_clean.Goals as goal

pub overflow_add-i-end : goal.overflow_add-i-end
overflow_add-i-end c = search (all_laws, clean-row, row_room, row_fits, rules)

pub loop-i-init : goal.loop-i-init
loop-i-init c = search (all_laws, clean-row, row_room, row_fits, rules)

pub overflow_mul-i : goal.overflow_mul-i
overflow_mul-i c = search (all_laws, clean-row, row_room, row_fits, rules)

pub key_clean-requires : goal.key_clean-requires
key_clean-requires c = search (all_laws, clean-row, row_room, row_fits, rules)

pub returns-then-not-key_clean : goal.returns-then-not-key_clean
returns-then-not-key_clean c = search (all_laws, clean-row, row_room, row_fits, rules)

pub loop-i-preserved : goal.loop-i-preserved
loop-i-preserved c = search (all_laws, clean-row, row_room, row_fits, rules)

pub returns : goal.returns
returns c = search (all_laws, clean-row, row_room, row_fits, rules)
