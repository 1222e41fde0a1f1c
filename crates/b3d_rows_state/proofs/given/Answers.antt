-- `given` says whether a row was given.
use Rattle.b3d_rows_state.proofs.StateLaws.{given_laws}
use borrow.Author.Rules.{rules}
use Rattle.b3d_rows_state.proofs.given.Goals as goal

pub returns-then-not-n : goal.returns-then-not-n
returns-then-not-n c = search (given_laws, rules)

pub returns : goal.returns
returns c = search (given_laws, rules)
