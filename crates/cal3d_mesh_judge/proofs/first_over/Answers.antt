-- `first_over` answers the first table with too many rows.
use borrow.Author.Rules.{rules}
use Rattle.cal3d_mesh_judge.proofs.LimitLaws.{over}
use Rattle.cal3d_mesh_judge.proofs.first_over.Goals as goal

pub returns-then-submeshes-gt16383 : goal.returns-then-submeshes-gt16383
returns-then-submeshes-gt16383 c = search (over, rules)

pub returns-then-t-gt16383 : goal.returns-then-t-gt16383
returns-then-t-gt16383 c = search (over, rules)

pub returns-then-t-gt16383-2 : goal.returns-then-t-gt16383-2
returns-then-t-gt16383-2 c = search (over, rules)

pub returns-then-t-gt16383-3 : goal.returns-then-t-gt16383-3
returns-then-t-gt16383-3 c = search (over, rules)

pub returns-then-t-gt16383-4 : goal.returns-then-t-gt16383-4
returns-then-t-gt16383-4 c = search (over, rules)

pub returns-then-t-gt16383-5 : goal.returns-then-t-gt16383-5
returns-then-t-gt16383-5 c = search (over, rules)

pub returns : goal.returns
returns c = search (over, rules)
