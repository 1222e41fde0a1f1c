-- `kelompuris_b3d_pieces_start` is a fresh state.
use borrow.Author.Rules.{rules}
use Rattle.kelompuris_c_pieces.proofs.Laws.{fresh-state}
use Rattle.kelompuris_c_pieces.proofs.kelompuris_b3d_pieces_start.Goals as goal

pub returns : goal.returns
returns c = search (fresh-state, rules)
