-- `skip_from` comes to the machine's state, whatever chunks stand around.
use Rattle.b3d_pieces_body_steps.proofs.EnterLaws.{skip_laws}
use borrow.Author.Rules.{rules}
use Rattle.b3d_pieces_body_steps.proofs.skip_from.Goals as goal

pub returns-then-at-until : goal.returns-then-at-until
returns-then-at-until c = search (skip_laws, rules)

pub returns : goal.returns
returns c = search (skip_laws, rules)
