-- `closed` does what its promise says.
use borrow.Author.Rules.{rules}
use Rattle.b3d_pieces_records_loop.proofs.RoundLaws.{closed_laws}
use Rattle.b3d_pieces_records_loop.proofs.closing.closed.Goals as goal

pub first_number-number-requires : goal.first_number-number-requires
first_number-number-requires c = search (closed_laws, rules)

pub closing_of-verdict-requires : goal.closing_of-verdict-requires
closing_of-verdict-requires c = search (closed_laws, rules)

pub returns-then-number-eq0 : goal.returns-then-number-eq0
returns-then-number-eq0 c = search (closed_laws, rules)

pub returns : goal.returns
returns c = search (closed_laws, rules)
