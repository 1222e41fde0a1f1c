-- `judge_valid` holds just where the statement does.
use Rattle.b3d_pieces_valid_state.proofs.StateTestLaws.{row-state_laws}
use borrow.Author.Rules.{rules}
use Rattle.b3d_pieces_valid_state.proofs.state.judge_valid.Goals as goal

pub returns-then-n-gt-MOST_AROUND : goal.returns-then-n-gt-MOST_AROUND
returns-then-n-gt-MOST_AROUND c = search (row-state_laws, rules)

pub state_valid-requires : goal.state_valid-requires
state_valid-requires c = search (row-state_laws, rules)

pub returns : goal.returns
returns c = search (row-state_laws, rules)
