-- `state_of` is what its promise says.
use Rattle.b3d_pieces_state.proofs.StateLaws.{state_laws}
use borrow.Author.Rules.{rules}
use Rattle.b3d_pieces_state.proofs.states.state_of.Goals as goal

pub returns-in-Text : goal.returns-in-Text
returns-in-Text c = search (state_laws, rules)

pub returns-in-Row : goal.returns-in-Row
returns-in-Row c = search (state_laws, rules)

pub returns-in-Skip : goal.returns-in-Skip
returns-in-Skip c = search (state_laws, rules)

pub returns-in-Push : goal.returns-in-Push
returns-in-Push c = search (state_laws, rules)

pub returns-in-Pop : goal.returns-in-Pop
returns-in-Pop c = search (state_laws, rules)

pub returns-in-Fault : goal.returns-in-Fault
returns-in-Fault c = search (state_laws, rules)

pub returns-in-Over : goal.returns-in-Over
returns-in-Over c = search (state_laws, rules)
