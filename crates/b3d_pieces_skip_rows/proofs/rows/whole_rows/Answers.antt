-- `whole_rows` counts rows.
use borrow.Author.Rules.{rules}
use Rattle.b3d_pieces_skip_rows.proofs.FreeLaws.{whole_laws}
use Rattle.b3d_pieces_skip_rows.proofs.rows.whole_rows.Goals as goal

pub returns : goal.returns
returns c = search (whole_laws, rules)
