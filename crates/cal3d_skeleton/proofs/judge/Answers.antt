-- `judge` answers a skeleton file without any table.
use borrow.Author.Rules.{rules}
use Rattle.cal3d_skeleton.proofs.JudgeLaws.{answering}
use Rattle.cal3d_skeleton.proofs.judge.Goals as goal

pub accepted-requires : goal.accepted-requires
accepted-requires c = search (answering, rules)

pub returns-in-Err : goal.returns-in-Err
returns-in-Err c = search (answering, rules)

pub returns-in-Ok : goal.returns-in-Ok
returns-in-Ok c = search (answering, rules)
