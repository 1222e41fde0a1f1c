-- `state_valid` holds just where the statement does.
use Rattle.b3d_pieces_valid_state.proofs.StateTestLaws.{fine_laws}
use borrow.Author.Rules.{rules}
use Rattle.b3d_pieces_valid_state.proofs.state.state_valid.Goals as goal

pub returns-then-size-gt-MOST_COUNTED : goal.returns-then-size-gt-MOST_COUNTED
returns-then-size-gt-MOST_COUNTED c = search (fine_laws, rules)

pub returns-then-n-gt-MOST_AROUND : goal.returns-then-n-gt-MOST_AROUND
returns-then-n-gt-MOST_AROUND c = search (fine_laws, rules)

pub returns-then-pending : goal.returns-then-pending
returns-then-pending c = search (fine_laws, rules)

pub returns-then-size-lt8 : goal.returns-then-size-lt8
returns-then-size-lt8 c = search (fine_laws, rules)

pub returns : goal.returns
returns c = search (fine_laws, rules)
