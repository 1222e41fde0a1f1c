-- `text_byte` comes to the machine's state, whatever chunks stand around.
use Rattle.b3d_pieces_byte_steps.proofs.ByteLaws.{text_laws}
use borrow.Author.Rules.{rules}
use Rattle.b3d_pieces_byte_steps.proofs.bytes.text_byte.Goals as goal

pub returns-then-b-eq0 : goal.returns-then-b-eq0
returns-then-b-eq0 c = search (text_laws, rules)

pub returns : goal.returns
returns c = search (text_laws, rules)
