-- `refused` comes to what the definition's close does.
use Rattle.b3d_pieces_answers.proofs.ClosingLaws.{refused-is}
use borrow.Author.Rules.{rules}
use Rattle.b3d_pieces_answers.proofs.refused.Goals as goal

pub returns : goal.returns
returns c = search (refused-is, rules)
