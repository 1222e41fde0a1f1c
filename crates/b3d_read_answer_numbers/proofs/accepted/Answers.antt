-- `accepted` answers what the judge found.
use Rattle.b3d_judge_limits.specs.Rooms.{counts_in}
use Rattle.b3d_read_answer_numbers.specs.Answers.{accepted_as}
use Rattle.b3d_read_answer_numbers.proofs.RoomAnswerLaws.{cell_fits}
use borrow.Author.Rules.{rules}
use Rattle.b3d_read_answer_numbers.proofs.accepted.Goals as goal

pub overflow_cast-result : goal.overflow_cast-result
overflow_cast-result c = let limited = c.requires in search (cell_fits, rules)

pub overflow_cast-result-2 : goal.overflow_cast-result-2
overflow_cast-result-2 c = let limited = c.requires in search (cell_fits, rules)

pub overflow_cast-result-3 : goal.overflow_cast-result-3
overflow_cast-result-3 c = let limited = c.requires in search (cell_fits, rules)

pub overflow_cast-result-4 : goal.overflow_cast-result-4
overflow_cast-result-4 c = let limited = c.requires in search (cell_fits, rules)

pub overflow_cast-result-5 : goal.overflow_cast-result-5
overflow_cast-result-5 c = let limited = c.requires in search (cell_fits, rules)

pub overflow_cast-result-6 : goal.overflow_cast-result-6
overflow_cast-result-6 c = let limited = c.requires in search (cell_fits, rules)

pub overflow_cast-result-7 : goal.overflow_cast-result-7
overflow_cast-result-7 c = let limited = c.requires in search (cell_fits, rules)

pub overflow_cast-result-8 : goal.overflow_cast-result-8
overflow_cast-result-8 c = let limited = c.requires in search (cell_fits, rules)

pub overflow_cast-result-9 : goal.overflow_cast-result-9
overflow_cast-result-9 c = let limited = c.requires in search (cell_fits, rules)

pub overflow_cast-result-10 : goal.overflow_cast-result-10
overflow_cast-result-10 c = let limited = c.requires in search (cell_fits, rules)

pub returns : goal.returns
unfolding accepted_as counts_in
returns c = search rules
