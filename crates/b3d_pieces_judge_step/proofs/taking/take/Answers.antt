-- `take` takes the machine's turn, whatever the row.
use Rattle.b3d_pieces_judge_step.proofs.TakeLaws.{take_laws}
use borrow.Author.Rules.{rules}
use Rattle.b3d_pieces_judge_step.proofs.taking.take.Goals as goal

pub body_turn-requires : goal.body_turn-requires
body_turn-requires c = search (take_laws, rules)

pub body_turn-requires-then-size-le-MOST_BYTES : goal.body_turn-requires-then-size-le-MOST_BYTES
body_turn-requires-then-size-le-MOST_BYTES c = search (take_laws, rules)

pub returns : goal.returns
returns c = search (take_laws, rules)
