-- `head_low` holds just where the statement does.
use Rattle.b3d_pieces_valid_state.proofs.StateTestLaws.{low_laws}
use borrow.Author.Rules.{rules}
use Rattle.b3d_pieces_valid_state.proofs.state.head_low.Goals as goal

pub returns-then-size-lt4 : goal.returns-then-size-lt4
returns-then-size-lt4 c = search (low_laws, rules)

pub returns : goal.returns
returns c = search (low_laws, rules)
