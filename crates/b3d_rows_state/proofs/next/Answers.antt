-- `next` refuses, or gives the next row.
use Rattle.b3d_rows_state.proofs.StateLaws.{next_laws}
use borrow.Author.Rules.{rules}
use Rattle.b3d_rows_state.proofs.next.Goals as goal

pub returns-then-row-lt-VERTEX_WIDTH : goal.returns-then-row-lt-VERTEX_WIDTH
returns-then-row-lt-VERTEX_WIDTH c = search (next_laws, rules)

pub returns-then-not-can_go_on : goal.returns-then-not-can_go_on
returns-then-not-can_go_on c = search (next_laws, rules)

pub next_or_end-n-requires : goal.next_or_end-n-requires
next_or_end-n-requires c = search (next_laws, rules)

pub returns : goal.returns
returns c = search (next_laws, rules)
