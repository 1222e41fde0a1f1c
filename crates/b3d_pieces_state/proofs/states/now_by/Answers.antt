-- `now_by` is what its promise says.
use Rattle.b3d_pieces_state.proofs.StateLaws.{now_laws}
use borrow.Author.Rules.{rules}
use Rattle.b3d_pieces_state.proofs.states.now_by.Goals as goal

pub returns-then-s-eq0 : goal.returns-then-s-eq0
returns-then-s-eq0 c = search (now_laws, rules)

pub returns-then-s-eq1 : goal.returns-then-s-eq1
returns-then-s-eq1 c = search (now_laws, rules)

pub returns-then-s-eq2 : goal.returns-then-s-eq2
returns-then-s-eq2 c = search (now_laws, rules)

pub returns-then-s-eq3 : goal.returns-then-s-eq3
returns-then-s-eq3 c = search (now_laws, rules)

pub returns : goal.returns
returns c = search (now_laws, rules)
