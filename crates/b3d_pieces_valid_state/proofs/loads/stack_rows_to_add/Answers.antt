-- `stack_rows_to_add` holds just where the statement does.
use borrow.Author.Rules.{rules}
use Rattle.b3d_pieces_valid_state.proofs.RowTestLaws.{loaded_laws}
use Rattle.b3d_pieces_valid_state.proofs.loads.stack_rows_to_add.Goals as goal

pub loop-i-init : goal.loop-i-init
loop-i-init c = search (loaded_laws, rules)

pub open_at-f-requires : goal.open_at-f-requires
open_at-f-requires c = search (loaded_laws, rules)

pub rows_to_add-v-requires : goal.rows_to_add-v-requires
rows_to_add-v-requires c = search (loaded_laws, rules)

pub returns-then-sum-gt-MOST_COUNTED : goal.returns-then-sum-gt-MOST_COUNTED
returns-then-sum-gt-MOST_COUNTED c = search (loaded_laws, rules)

pub loop-i-preserved : goal.loop-i-preserved
loop-i-preserved c = search (loaded_laws, rules)

pub returns : goal.returns
returns c = search (loaded_laws, rules)
