-- `turn` takes the machine's turn, whatever the row.
use Rattle.b3d_pieces_step.proofs.TurnLaws.{turn_laws}
use borrow.Author.Rules.{rules}
use Rattle.b3d_pieces_step.proofs.turning.turn.Goals as goal

pub byte_in-x-requires : goal.byte_in-x-requires
byte_in-x-requires c = search (turn_laws, rules)

pub enter-x-requires : goal.enter-x-requires
enter-x-requires c = search (turn_laws, rules)

pub returns-then-n-eq0 : goal.returns-then-n-eq0
returns-then-n-eq0 c = search (turn_laws, rules)

pub edge-x-requires : goal.edge-x-requires
edge-x-requires c = search (turn_laws, rules)

pub returns-in-Live : goal.returns-in-Live
returns-in-Live c = search (turn_laws, rules)

pub returns-in-Push : goal.returns-in-Push
returns-in-Push c = search (turn_laws, rules)

pub returns-else-n-eq0 : goal.returns-else-n-eq0
returns-else-n-eq0 c = search (turn_laws, rules)

pub returns-in-Fault : goal.returns-in-Fault
returns-in-Fault c = search (turn_laws, rules)

pub returns-in-Over : goal.returns-in-Over
returns-in-Over c = search (turn_laws, rules)
