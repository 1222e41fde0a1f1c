-- `ended` comes to what the definition's close does.
use Rattle.b3d_pieces_answers.proofs.ClosingLaws.{end_laws}
use borrow.Author.Rules.{rules}
use Rattle.b3d_pieces_answers.proofs.ended.Goals as goal

pub returns-in-Live : goal.returns-in-Live
returns-in-Live c = search (end_laws, rules)

pub returns-in-Push : goal.returns-in-Push
returns-in-Push c = search (end_laws, rules)

pub returns-in-Pop : goal.returns-in-Pop
returns-in-Pop c = search (end_laws, rules)

pub returns-in-Fault : goal.returns-in-Fault
returns-in-Fault c = search (end_laws, rules)

pub returns-in-Over : goal.returns-in-Over
returns-in-Over c = search (end_laws, rules)
