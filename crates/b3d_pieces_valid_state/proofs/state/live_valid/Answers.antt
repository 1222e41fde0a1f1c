-- `live_valid` holds just where the statement does.
use Rattle.b3d_pieces_valid_state.proofs.StateTestLaws.{live_laws}
use borrow.Author.Rules.{rules}
use Rattle.b3d_pieces_valid_state.proofs.state.live_valid.Goals as goal

pub returns-then-part_valid : goal.returns-then-part_valid
returns-then-part_valid c = search (live_laws, rules)

pub returns : goal.returns
returns c = search (live_laws, rules)
