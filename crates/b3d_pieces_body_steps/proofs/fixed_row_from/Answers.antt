-- `fixed_row_from` comes to the machine's state, whatever chunks stand around.
use Rattle.b3d_pieces_body_steps.proofs.EnterLaws.{row_laws}
use borrow.Author.Rules.{rules}
use Rattle.b3d_pieces_body_steps.proofs.fixed_row_from.Goals as goal

pub wrong_for-requires : goal.wrong_for-requires
wrong_for-requires c = search (row_laws, rules)

pub returns-then-wrong_for : goal.returns-then-wrong_for
returns-then-wrong_for c = search (row_laws, rules)

pub returns-then-n-eq0 : goal.returns-then-n-eq0
returns-then-n-eq0 c = search (row_laws, rules)

pub returns : goal.returns
returns c = search (row_laws, rules)
