-- `more_items` goes by the table.
use Rattle.b3d_rows_items.proofs.NextItemLaws.{more_laws}
use borrow.Author.Rules.{rules}
use Rattle.b3d_rows_items.proofs.more_items.Goals as goal

pub more_sets-requires : goal.more_sets-requires
more_sets-requires c = search (more_laws, rules)

pub returns-then-k-eq7 : goal.returns-then-k-eq7
returns-then-k-eq7 c = search (more_laws, rules)

pub more_chunks-requires : goal.more_chunks-requires
more_chunks-requires c = search (more_laws, rules)

pub returns : goal.returns
returns c = search (more_laws, rules)
