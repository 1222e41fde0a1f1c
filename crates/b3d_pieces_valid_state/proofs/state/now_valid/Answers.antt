-- `now_valid` holds just where the statement does.
use Rattle.b3d_pieces_valid_state.proofs.StateTestLaws.{now_laws}
use borrow.Author.Rules.{rules}
use Rattle.b3d_pieces_valid_state.proofs.state.now_valid.Goals as goal

pub returns-in-Live : goal.returns-in-Live
returns-in-Live c = search (now_laws, rules)

pub returns-in-Push : goal.returns-in-Push
returns-in-Push c = search (now_laws, rules)

pub returns-in-Pop : goal.returns-in-Pop
returns-in-Pop c = search (now_laws, rules)

pub returns-in-Fault : goal.returns-in-Fault
returns-in-Fault c = search (now_laws, rules)

pub returns-in-Over : goal.returns-in-Over
returns-in-Over c = search (now_laws, rules)
