-- `pass` takes bytes by what is held.
use borrow.Author.Rules.{rules}
use Rattle.b3d_pieces_skip.proofs.PassLaws.{room_laws}
use Rattle.b3d_pieces_skip.proofs.passing.pass.Goals as goal

pub pass_live-requires : goal.pass_live-requires
pass_live-requires c = search (room_laws, rules)

pub moved-requires : goal.moved-requires
moved-requires c = search (room_laws, rules)

pub moved-requires-in-Over : goal.moved-requires-in-Over
moved-requires-in-Over c = search (room_laws, rules)

pub returns-in-Fault : goal.returns-in-Fault
returns-in-Fault c = search (room_laws, rules)

pub returns-in-Over : goal.returns-in-Over
returns-in-Over c = search (room_laws, rules)
