-- `row_len` is how many numbers the row has.
use Rattle.b3d_pieces_rules.proofs.RowLengthLaws.{row_len_laws}
use borrow.Author.Rules.{rules}
use Rattle.b3d_pieces_rules.proofs.lengths.row_len.Goals as goal

pub returns-then-fixed : goal.returns-then-fixed
returns-then-fixed c = search (row_len_laws, rules)

pub returns : goal.returns
returns c = search (row_len_laws, rules)
