-- `rows_coloured` looks at each row. The loop has passed those before i.
use Rattle.b3d_check_rows.proofs.LoopLaws.{all_laws}
use Rattle.b3d_check_colours.proofs.ColourRowLaws.{row-among}
use borrow.Author.Rules.{rules}
use Rattle.b3d_check_colours.proofs.rows_coloured.Goals as goal

pub loop-i-init : goal.loop-i-init
loop-i-init c = search (all_laws, rules)

pub row_coloured-requires : goal.row_coloured-requires
row_coloured-requires c = search (row-among, rules)

pub returns-then-not-row_coloured : goal.returns-then-not-row_coloured
returns-then-not-row_coloured c = search (all_laws, rules)

pub loop-i-preserved : goal.loop-i-preserved
loop-i-preserved c = search (all_laws, rules)

pub returns : goal.returns
returns c = search (all_laws, rules)
