-- `next_row` gives the row that is to come.
use Rattle.b3d_rows.proofs.NextRowLaws.{row-given}
use borrow.Author.Rules.{rules}
use Rattle.b3d_rows.proofs.next_row.Goals as goal

pub next_or_end-n-requires : goal.next_or_end-n-requires
next_or_end-n-requires c = search (row-given, rules)

pub shape_of-row : goal.shape_of-row
shape_of-row c = search (row-given, rules)

pub returns : goal.returns
returns c = search (row-given, rules)
