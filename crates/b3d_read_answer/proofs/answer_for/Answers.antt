-- `answer_for` answers what the definition says of a file and the lengths of the tables.
use Rattle.b3d_read_answer.proofs.AnswerLaws.{answer_laws}
use borrow.Author.Rules.{rules}
use Rattle.b3d_read_answer.proofs.answer_for.Goals as goal

pub judge-requires : goal.judge-requires
judge-requires c = search (answer_laws, rules)

pub enum_known-e : goal.enum_known-e
enum_known-e c = search (answer_laws, rules)

pub refused-requires : goal.refused-requires
refused-requires c = search (answer_laws, rules)

pub enum_known-x : goal.enum_known-x
enum_known-x c = search (answer_laws, rules)

pub with_room-requires : goal.with_room-requires
with_room-requires c = search (answer_laws, rules)

pub returns-in-Err : goal.returns-in-Err
returns-in-Err c = search (answer_laws, rules)

pub returns-in-Ok : goal.returns-in-Ok
returns-in-Ok c = search (answer_laws, rules)
