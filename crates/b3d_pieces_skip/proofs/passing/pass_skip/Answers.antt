-- `pass_skip` takes bytes of a chunk that is passed over.
use borrow.Author.Rules.{rules}
use Rattle.b3d_pieces_skip.proofs.PassLaws.{skip_moves}
use Rattle.b3d_pieces_skip.proofs.passing.pass_skip.Goals as goal

pub returns : goal.returns
returns c = search (skip_moves, rules)
