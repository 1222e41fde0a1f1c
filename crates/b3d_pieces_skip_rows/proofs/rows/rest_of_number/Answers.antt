-- `rest_of_number` takes the number that was begun.
use borrow.Author.Rules.{rules}
use Rattle.b3d_pieces_skip_rows.proofs.FreeLaws.{then_laws}
use Rattle.b3d_pieces_skip_rows.proofs.rows.rest_of_number.Goals as goal

pub returns-then-x-eq0 : goal.returns-then-x-eq0
returns-then-x-eq0 c = search (then_laws, rules)

pub last_byte-requires : goal.last_byte-requires
last_byte-requires c = search (then_laws, rules)

pub returns : goal.returns
returns c = search (then_laws, rules)
