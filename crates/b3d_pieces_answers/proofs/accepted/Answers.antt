-- `accepted` comes to what the definition's close does.
use Rattle.b3d_pieces_answers.proofs.ClosingLaws.{accepted-is}
use borrow.Author.Rules.{rules}
use Rattle.b3d_pieces_answers.proofs.accepted.Goals as goal

pub returns : goal.returns
returns c = search (accepted-is, rules)
