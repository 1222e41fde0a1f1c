-- `rows` takes rows.
use borrow.Author.Rules.{rules}
use Rattle.b3d_pieces_skip_rows.proofs.FreeLaws.{then_laws}
use Rattle.b3d_pieces_skip_rows.proofs.rows.rows.Goals as goal

pub free_rows-b-requires : goal.free_rows-b-requires
free_rows-b-requires c = search (then_laws, rules)

pub numbers-c-requires : goal.numbers-c-requires
numbers-c-requires c = search (then_laws, rules)

pub gather-requires : goal.gather-requires
gather-requires c = search (then_laws, rules)

pub returns : goal.returns
returns c = search (then_laws, rules)
