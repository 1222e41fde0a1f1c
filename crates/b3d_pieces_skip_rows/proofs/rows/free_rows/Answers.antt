-- `free_rows` takes whole rows.
use borrow.Author.Rules.{rules}
use Rattle.b3d_pieces_skip_rows.proofs.FreeLaws.{rows_laws}
use Rattle.b3d_pieces_skip_rows.proofs.rows.free_rows.Goals as goal

pub returns-then-x-ne0 : goal.returns-then-x-ne0
returns-then-x-ne0 c = search (rows_laws, rules)

pub returns-then-x-ne0-2 : goal.returns-then-x-ne0-2
returns-then-x-ne0-2 c = search (rows_laws, rules)

pub returns-then-judged : goal.returns-then-judged
returns-then-judged c = search (rows_laws, rules)

pub returns-then-m-ne0 : goal.returns-then-m-ne0
returns-then-m-ne0 c = search (rows_laws, rules)

pub returns-else-m-ne0 : goal.returns-else-m-ne0
returns-else-m-ne0 c = search (rows_laws, rules)

pub returns-else-q : goal.returns-else-q
returns-else-q c = search (rows_laws, rules)
