-- `answer_of_both` looks whether the mended file and the report have room.
use Rattle.b3d_mend_write_both.proofs.BothAnswerLaws.{both_answers}
use borrow.Author.Rules.{rules}
use Rattle.b3d_mend_write_both.proofs.answer_of_both.Goals as goal

pub returns-then-room-size : goal.returns-then-room-size
returns-then-room-size c = search (both_answers, rules)

pub returns-then-report_room-report_size : goal.returns-then-report_room-report_size
returns-then-report_room-report_size c = search (both_answers, rules)

pub returns : goal.returns
returns c = search (both_answers, rules)
