-- `slot` takes the machine's turn, whatever the row.
use Rattle.b3d_pieces_step.proofs.TurnLaws.{slot_laws}
use borrow.Author.Rules.{rules}
use Rattle.b3d_pieces_step.proofs.turning.slot.Goals as goal

pub returns-then-n-eq0 : goal.returns-then-n-eq0
returns-then-n-eq0 c = search (slot_laws, rules)

pub returns : goal.returns
returns c = search (slot_laws, rules)
