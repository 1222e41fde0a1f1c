-- `row_done` comes to the machine's state, whatever chunks stand around.
use Rattle.b3d_pieces_byte_steps.proofs.RowLaws.{done_laws}
use borrow.Author.Rules.{rules}
use Rattle.b3d_pieces_byte_steps.proofs.rows.row_done.Goals as goal

pub returns-then-fixed : goal.returns-then-fixed
returns-then-fixed c = search (done_laws, rules)

pub returns-then-nests : goal.returns-then-nests
returns-then-nests c = search (done_laws, rules)

pub returns : goal.returns
returns c = search (done_laws, rules)
