-- `fixed_done` comes to the machine's state, whatever chunks stand around.
use Rattle.b3d_pieces_body_steps.proofs.EnterLaws.{done_laws}
use borrow.Author.Rules.{rules}
use Rattle.b3d_pieces_body_steps.proofs.fixed_done.Goals as goal

pub edge-requires : goal.edge-requires
edge-requires c = search (done_laws, rules)

pub returns : goal.returns
returns c = search (done_laws, rules)
