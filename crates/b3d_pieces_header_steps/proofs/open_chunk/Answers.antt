-- `open_chunk` comes to the machine's state, whatever chunks stand around.
use Rattle.b3d_pieces_header_steps.proofs.HeadLaws.{open_laws}
use borrow.Author.Rules.{rules}
use Rattle.b3d_pieces_header_steps.proofs.open_chunk.Goals as goal

pub returns-then-level-eq0 : goal.returns-then-level-eq0
returns-then-level-eq0 c = search (open_laws, rules)

pub returns-then-texted : goal.returns-then-texted
returns-then-texted c = search (open_laws, rules)

pub returns : goal.returns
returns c = search (open_laws, rules)
