-- `begin` comes to the machine's state, whatever chunks stand around.
use Rattle.b3d_pieces_item_steps.proofs.EdgeLaws.{begin_laws}
use borrow.Author.Rules.{rules}
use Rattle.b3d_pieces_item_steps.proofs.between.begin.Goals as goal

pub returns-then-text_items : goal.returns-then-text_items
returns-then-text_items c = search (begin_laws, rules)

pub returns-then-nests : goal.returns-then-nests
returns-then-nests c = search (begin_laws, rules)

pub returns-then-left-n : goal.returns-then-left-n
returns-then-left-n c = search (begin_laws, rules)

pub returns : goal.returns
returns c = search (begin_laws, rules)
