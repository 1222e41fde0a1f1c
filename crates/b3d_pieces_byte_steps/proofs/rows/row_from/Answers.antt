-- `row_from` comes to the machine's state, whatever chunks stand around.
use Rattle.b3d_pieces_byte_steps.proofs.RowLaws.{from_laws}
use borrow.Author.Rules.{rules}
use Rattle.b3d_pieces_byte_steps.proofs.rows.row_from.Goals as goal

pub returns-then-i-n : goal.returns-then-i-n
returns-then-i-n c = search (from_laws, rules)

pub returns : goal.returns
returns c = search (from_laws, rules)
