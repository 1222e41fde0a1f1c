-- `keep` comes to the machine's state, whatever chunks stand around.
use Rattle.b3d_pieces_byte_steps.proofs.RowLaws.{keep_laws}
use borrow.Author.Rules.{rules}
use Rattle.b3d_pieces_byte_steps.proofs.rows.keep.Goals as goal

pub returns-then-i-eq0 : goal.returns-then-i-eq0
returns-then-i-eq0 c = search (keep_laws, rules)

pub returns-then-i-eq1 : goal.returns-then-i-eq1
returns-then-i-eq1 c = search (keep_laws, rules)

pub returns-then-i-eq2 : goal.returns-then-i-eq2
returns-then-i-eq2 c = search (keep_laws, rules)

pub returns : goal.returns
returns c = search (keep_laws, rules)
