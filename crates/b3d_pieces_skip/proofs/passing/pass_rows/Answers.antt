-- `pass_rows` takes bytes of rows.
use borrow.Author.Rules.{rules}
use Rattle.b3d_pieces_skip.proofs.PassLaws.{rows_laws}
use Rattle.b3d_pieces_skip.proofs.passing.pass_rows.Goals as goal

pub rows-y-requires : goal.rows-y-requires
rows-y-requires c = search (rows_laws, rules)

pub returns : goal.returns
returns c = search (rows_laws, rules)
