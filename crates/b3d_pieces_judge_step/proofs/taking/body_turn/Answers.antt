-- `body_turn` takes the machine's turn, whatever the row.
use Rattle.b3d_pieces_judge_step.proofs.TakeLaws.{body_laws}
use borrow.Author.Rules.{rules}
use Rattle.b3d_pieces_judge_step.proofs.taking.body_turn.Goals as goal

pub turn-y-requires : goal.turn-y-requires
turn-y-requires c = search (body_laws, rules)

pub returns : goal.returns
returns c = search (body_laws, rules)
