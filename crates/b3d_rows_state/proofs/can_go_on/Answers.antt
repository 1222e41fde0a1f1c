-- `can_go_on` tests the numbers of a state.
use Rattle.b3d_rows_state.proofs.StateLaws.{test_is}
use borrow.Author.Rules.{rules}
use Rattle.b3d_rows_state.proofs.can_go_on.Goals as goal

pub returns : goal.returns
returns c = search (test_is, rules)
