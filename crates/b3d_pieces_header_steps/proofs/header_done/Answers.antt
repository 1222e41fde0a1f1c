-- `header_done` comes to the machine's state, whatever chunks stand around.
use Rattle.b3d_pieces_header_steps.proofs.HeadLaws.{header_laws}
use borrow.Author.Rules.{rules}
use Rattle.b3d_pieces_header_steps.proofs.header_done.Goals as goal

pub returns-then-left-n : goal.returns-then-left-n
returns-then-left-n c = search (header_laws, rules)

pub returns-in_default : goal.returns-in_default
returns-in_default c = search (header_laws, rules)

pub returns : goal.returns
returns c = search (header_laws, rules)
