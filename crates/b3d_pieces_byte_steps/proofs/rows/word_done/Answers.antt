-- `word_done` comes to the machine's state, whatever chunks stand around.
use Rattle.b3d_pieces_byte_steps.proofs.RowLaws.{word_laws}
use borrow.Author.Rules.{rules}
use Rattle.b3d_pieces_byte_steps.proofs.rows.word_done.Goals as goal

pub returns-then-no-ne0 : goal.returns-then-no-ne0
returns-then-no-ne0 c = search (word_laws, rules)

pub row_from-requires : goal.row_from-requires
row_from-requires c = search (word_laws, rules)

pub returns : goal.returns
returns c = search (word_laws, rules)
