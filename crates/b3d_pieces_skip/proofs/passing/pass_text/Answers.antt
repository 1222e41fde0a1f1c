-- `pass_text` takes bytes of a text.
use borrow.Author.Rules.{rules}
use Rattle.b3d_pieces_skip.proofs.PassLaws.{text-moves}
use Rattle.b3d_pieces_skip.proofs.passing.pass_text.Goals as goal

pub returns : goal.returns
returns c = search (text-moves, rules)
