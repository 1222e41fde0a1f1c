-- `start` stands before the first row.
use Rattle.b3d_rows.proofs.StartLaws.{start_is}
use borrow.Author.Rules.{rules}
use Rattle.b3d_rows.proofs.start.Goals as goal

pub begin-requires : goal.begin-requires
begin-requires c = search (start_is, rules)

pub returns : goal.returns
returns c = search (start_is, rules)
