-- `zero_sets` stores zeros by their number.
use borrow.Author.Rules.{rules}
use Rattle.b3d_read_vertex_rows.proofs.SetLaws.{by_zeros}
use Rattle.b3d_read_vertex_rows.proofs.zero_sets.Goals as goal

pub put_same-requires-in_default : goal.put_same-requires-in_default
put_same-requires-in_default c = search (by_zeros, rules)

pub returns-in-0 : goal.returns-in-0
returns-in-0 c = search (by_zeros, rules)

pub returns-in-1 : goal.returns-in-1
returns-in-1 c = search (by_zeros, rules)

pub returns-in-2 : goal.returns-in-2
returns-in-2 c = search (by_zeros, rules)

pub returns-in-3 : goal.returns-in-3
returns-in-3 c = search (by_zeros, rules)

pub returns-in-4 : goal.returns-in-4
returns-in-4 c = search (by_zeros, rules)

pub returns-in-5 : goal.returns-in-5
returns-in-5 c = search (by_zeros, rules)

pub returns-in-6 : goal.returns-in-6
returns-in-6 c = search (by_zeros, rules)

pub returns-in-7 : goal.returns-in-7
returns-in-7 c = search (by_zeros, rules)

pub returns-in_default : goal.returns-in_default
returns-in_default c = search (by_zeros, rules)
