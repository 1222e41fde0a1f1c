-- `text_done` comes to the machine's state, whatever chunks stand around.
use Rattle.b3d_pieces_byte_steps.proofs.RowLaws.{text_laws}
use borrow.Author.Rules.{rules}
use Rattle.b3d_pieces_byte_steps.proofs.rows.text_done.Goals as goal

pub returns-then-left-n : goal.returns-then-left-n
returns-then-left-n c = search (text_laws, rules)

pub returns : goal.returns
returns c = search (text_laws, rules)
