-- `put_three` stores the piece of its number.
use borrow.Author.Rules.{rules}
use Rattle.b3d_read_row_runs.proofs.RunLaws.{by_number}
use Rattle.b3d_read_row_runs.proofs.put_three.Goals as goal

pub returns-in-0 : goal.returns-in-0
returns-in-0 c = search (by_number, rules)

pub returns-in-1 : goal.returns-in-1
returns-in-1 c = search (by_number, rules)

pub returns-in-2 : goal.returns-in-2
returns-in-2 c = search (by_number, rules)

pub returns-in_default : goal.returns-in_default
returns-in_default c = search (by_number, rules)
