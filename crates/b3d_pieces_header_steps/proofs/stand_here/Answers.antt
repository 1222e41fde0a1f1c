-- `stand_here` comes to the machine's state, whatever chunks stand around.
use Rattle.b3d_pieces_header_steps.proofs.HeadLaws.{stand_laws}
use borrow.Author.Rules.{rules}
use Rattle.b3d_pieces_header_steps.proofs.stand_here.Goals as goal

pub returns-in_default : goal.returns-in_default
returns-in_default c = search (stand_laws, rules)

pub returns : goal.returns
returns c = search (stand_laws, rules)
