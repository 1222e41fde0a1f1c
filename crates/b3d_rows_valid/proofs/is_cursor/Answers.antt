-- `is_cursor` goes by the table.
use Rattle.b3d_rows_valid.proofs.TestLaws.{cursor_laws}
use borrow.Author.Rules.{rules}
use Rattle.b3d_rows_valid.proofs.is_cursor.Goals as goal

pub returns-then-k-le2 : goal.returns-then-k-le2
returns-then-k-le2 c = search (cursor_laws, rules)

pub returns-then-k-eq3 : goal.returns-then-k-eq3
returns-then-k-eq3 c = search (cursor_laws, rules)

pub returns : goal.returns
returns c = search (cursor_laws, rules)
