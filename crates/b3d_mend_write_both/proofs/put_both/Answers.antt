-- `put_both` looks whether both have room, and writes both.
use Rattle.b3d_mend_write_both.proofs.BothLaws.{mend_answered, file-put, report-put, room_laws}
use borrow.Author.Rules.{rules}
use Rattle.b3d_mend_write_both.proofs.put_both.Goals as goal

pub answer_of_both-answer-requires : goal.answer_of_both-answer-requires
answer_of_both-answer-requires c = search (room_laws, rules)

pub returns-then-answer-ne0 : goal.returns-then-answer-ne0
returns-then-answer-ne0 c = search (room_laws, rules)

pub write_both-requires : goal.write_both-requires
write_both-requires c = search (room_laws, rules)

pub returns : goal.returns
returns c = record { value = search mend_answered; out_after = search file-put; report_after = search report-put }
