-- `wrong_for` is the definition's test.
use Rattle.b3d_pieces_body_steps.proofs.EnterLaws.{wrong_laws}
use borrow.Author.Rules.{rules}
use Rattle.b3d_pieces_body_steps.proofs.wrong_for.Goals as goal

pub returns-then-same : goal.returns-then-same
returns-then-same c = search (wrong_laws, rules)

pub returns : goal.returns
returns c = search (wrong_laws, rules)
