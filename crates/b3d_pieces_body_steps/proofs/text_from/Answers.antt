-- `text_from` comes to the machine's state, whatever chunks stand around.
use Rattle.b3d_pieces_body_steps.proofs.EnterLaws.{text_laws}
use borrow.Author.Rules.{rules}
use Rattle.b3d_pieces_body_steps.proofs.text_from.Goals as goal

pub returns-then-at-f : goal.returns-then-at-f
returns-then-at-f c = search (text_laws, rules)

pub returns : goal.returns
returns c = search (text_laws, rules)
