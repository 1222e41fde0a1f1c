-- `enter` comes to the machine's state, whatever chunks stand around.
use Rattle.b3d_pieces_body_steps.proofs.EnterLaws.{enter_laws}
use borrow.Author.Rules.{rules}
use Rattle.b3d_pieces_body_steps.proofs.enter.Goals as goal

pub returns-then-texted : goal.returns-then-texted
returns-then-texted c = search (enter_laws, rules)

pub returns : goal.returns
returns c = search (enter_laws, rules)
