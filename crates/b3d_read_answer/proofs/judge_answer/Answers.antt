-- `judge_answer` answers what the definition says of a file.
use Rattle.b3d_read_answer.proofs.AnswerLaws.{judge_laws}
use borrow.Author.Rules.{rules}
use Rattle.b3d_read_answer.proofs.judge_answer.Goals as goal

pub judge-requires : goal.judge-requires
judge-requires c = search (judge_laws, rules)

pub refused-requires : goal.refused-requires
refused-requires c = search (judge_laws, rules)

pub enum_known-x : goal.enum_known-x
enum_known-x c = search (judge_laws, rules)

pub accepted-requires : goal.accepted-requires
accepted-requires c = search (judge_laws, rules)

pub returns-in-Ok : goal.returns-in-Ok
returns-in-Ok c = search (judge_laws, rules)
