-- `rest_of_item` takes the item that was begun.
use borrow.Author.Rules.{rules}
use Rattle.b3d_pieces_skip_rows.proofs.FreeLaws.{then_laws}
use Rattle.b3d_pieces_skip_rows.proofs.rows.rest_of_item.Goals as goal

pub returns-then-y-eq0 : goal.returns-then-y-eq0
returns-then-y-eq0 c = search (then_laws, rules)

pub numbers-requires : goal.numbers-requires
numbers-requires c = search (then_laws, rules)

pub returns : goal.returns
returns c = search (then_laws, rules)
