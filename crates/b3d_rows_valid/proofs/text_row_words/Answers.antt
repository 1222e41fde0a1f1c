-- `text_row_words` goes by the table.
use Rattle.b3d_rows_valid.proofs.TestLaws.{wide_laws}
use borrow.Author.Rules.{rules}
use Rattle.b3d_rows_valid.proofs.text_row_words.Goals as goal

pub returns-then-k-eq1 : goal.returns-then-k-eq1
returns-then-k-eq1 c = search (wide_laws, rules)

pub returns : goal.returns
returns c = search (wide_laws, rules)
