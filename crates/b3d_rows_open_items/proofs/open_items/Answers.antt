-- `open_items` goes by the table.
use Rattle.b3d_rows_open_items.proofs.OpeningLaws.{open_laws}
use borrow.Author.Rules.{rules}
use Rattle.b3d_rows_open_items.proofs.open_items.Goals as goal

pub open_vertices-requires : goal.open_vertices-requires
open_vertices-requires c = search (open_laws, rules)

pub returns-then-k-eq5 : goal.returns-then-k-eq5
returns-then-k-eq5 c = search (open_laws, rules)

pub open_keys-requires : goal.open_keys-requires
open_keys-requires c = search (open_laws, rules)

pub returns-then-k-eq10 : goal.returns-then-k-eq10
returns-then-k-eq10 c = search (open_laws, rules)

pub first_word-head-requires : goal.first_word-head-requires
first_word-head-requires c = search (open_laws, rules)

pub plain-requires : goal.plain-requires
plain-requires c = search (open_laws, rules)

pub returns-then-k-eq7 : goal.returns-then-k-eq7
returns-then-k-eq7 c = search (open_laws, rules)

pub plain-requires-2 : goal.plain-requires-2
plain-requires-2 c = search (open_laws, rules)

pub returns : goal.returns
returns c = search (open_laws, rules)
