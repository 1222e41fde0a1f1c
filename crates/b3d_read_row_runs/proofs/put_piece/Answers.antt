-- `put_piece` stores words, then zeros.
use borrow.Author.Rules.{rules}
use Rattle.b3d_read_row_runs.proofs.RunLaws.{piece_laws}
use Rattle.b3d_read_row_runs.proofs.put_piece.Goals as goal

pub put_same-requires : goal.put_same-requires
put_same-requires c = search (piece_laws, rules)

pub returns : goal.returns
returns c = search (piece_laws, rules)
