-- `owner` goes by the table.
use Rattle.b3d_rows_positions.proofs.PositionLaws.{owner_laws}
use borrow.Author.Rules.{rules}
use Rattle.b3d_rows_positions.proofs.owner.Goals as goal

pub returns-then-k-eq8 : goal.returns-then-k-eq8
returns-then-k-eq8 c = search (owner_laws, rules)

pub returns-then-k-eq10 : goal.returns-then-k-eq10
returns-then-k-eq10 c = search (owner_laws, rules)

pub returns : goal.returns
returns c = search (owner_laws, rules)
