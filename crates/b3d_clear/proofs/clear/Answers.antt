-- `clear` judges the file, looks at the room, and writes the copy.
use Rattle.b3d_clear.proofs.ClearLaws.{clear_laws}
use borrow.Author.Rules.{rules}
use Rattle.b3d_clear.proofs.clear.Goals as goal

pub judge-requires : goal.judge-requires
judge-requires c = search (clear_laws, rules)

pub cell-requires : goal.cell-requires
cell-requires c = search (clear_laws, rules)

pub enum_known-x : goal.enum_known-x
enum_known-x c = search (clear_laws, rules)

pub are_bytes-requires : goal.are_bytes-requires
are_bytes-requires c = search (clear_laws, rules)

pub answer_of-answer-requires : goal.answer_of-answer-requires
answer_of-answer-requires c = search (clear_laws, rules)

pub returns-then-answer-ne0 : goal.returns-then-answer-ne0
returns-then-answer-ne0 c = search (clear_laws, rules)

pub clear_file-requires : goal.clear_file-requires
clear_file-requires c = search (clear_laws, rules)

pub returns-in-Err : goal.returns-in-Err
returns-in-Err c = search (clear_laws, rules)

pub shape_of-out : goal.shape_of-out
shape_of-out c = search (clear_laws, rules)

pub returns-else-answer-ne0 : goal.returns-else-answer-ne0
returns-else-answer-ne0 c = search (clear_laws, rules)
