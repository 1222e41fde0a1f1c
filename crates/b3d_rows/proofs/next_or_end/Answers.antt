-- `next_or_end` goes by the table.
use Rattle.b3d_rows.proofs.NextRowLaws.{row_laws}
use borrow.Author.Rules.{rules}
use Rattle.b3d_rows.proofs.next_or_end.Goals as goal

pub next_text-n-requires : goal.next_text-n-requires
next_text-n-requires c = search (row_laws, rules)

pub behind-requires : goal.behind-requires
behind-requires c = search (row_laws, rules)

pub shape_of-row-then-k-le2 : goal.shape_of-row-then-k-le2
shape_of-row-then-k-le2 c = search (row_laws, rules)

pub returns-then-k-le2 : goal.returns-then-k-le2
returns-then-k-le2 c = search (row_laws, rules)

pub next_node-requires : goal.next_node-requires
next_node-requires c = search (row_laws, rules)

pub shape_of-row-then-k-eq3 : goal.shape_of-row-then-k-eq3
shape_of-row-then-k-eq3 c = search (row_laws, rules)

pub returns-then-k-eq3 : goal.returns-then-k-eq3
returns-then-k-eq3 c = search (row_laws, rules)

pub next_part-n-requires : goal.next_part-n-requires
next_part-n-requires c = search (row_laws, rules)

pub behind-requires-2 : goal.behind-requires-2
behind-requires-2 c = search (row_laws, rules)

pub shape_of-row : goal.shape_of-row
shape_of-row c = search (row_laws, rules)

pub returns : goal.returns
returns c = search (row_laws, rules)
