-- `start` stands before the first row, or on no table.
use Rattle.b3d_rows_state.proofs.StateLaws.{start_laws}
use borrow.Author.Rules.{rules}
use Rattle.b3d_rows_state.proofs.start.Goals as goal

pub returns-then-table-lt1 : goal.returns-then-table-lt1
returns-then-table-lt1 c = search (start_laws, rules)

pub returns-then-table-gt10 : goal.returns-then-table-gt10
returns-then-table-gt10 c = search (start_laws, rules)

pub returns-then-file-lt-FEWEST_BYTES : goal.returns-then-file-lt-FEWEST_BYTES
returns-then-file-lt-FEWEST_BYTES c = search (start_laws, rules)

pub returns-then-file-gt-MOST_BYTES : goal.returns-then-file-gt-MOST_BYTES
returns-then-file-gt-MOST_BYTES c = search (start_laws, rules)

pub returns : goal.returns
returns c = search (start_laws, rules)
