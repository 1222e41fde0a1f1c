-- `last` does what its promise says.
use borrow.Author.Rules.{rules}
use Rattle.b3d_pieces_records_loop.proofs.RoundLaws.{last-is}
use Rattle.b3d_pieces_records_loop.proofs.rounds.last.Goals as goal

pub returns : goal.returns
returns c = search (last-is, rules)
