-- `gathered` adds a byte to those of a number.
use borrow.Author.Rules.{rules}
use Rattle.b3d_pieces_byte_steps.proofs.ByteLaws.{adds_laws}
use Rattle.b3d_pieces_byte_steps.proofs.bytes.gathered.Goals as goal

pub returns-then-j-eq0 : goal.returns-then-j-eq0
returns-then-j-eq0 c = search (adds_laws, rules)

pub returns-then-j-eq1 : goal.returns-then-j-eq1
returns-then-j-eq1 c = search (adds_laws, rules)

pub returns-then-j-eq2 : goal.returns-then-j-eq2
returns-then-j-eq2 c = search (adds_laws, rules)

pub returns : goal.returns
returns c = search (adds_laws, rules)
