-- `answer_of` looks whether the bytes have room.
use Rattle.b3d_spec_output_answer.proofs.SizeAnswerLaws.{answer_laws}
use borrow.Author.Rules.{rules}
use Rattle.b3d_spec_output_answer.proofs.answer_of.Goals as goal

pub returns-then-room-size : goal.returns-then-room-size
returns-then-room-size c = search (answer_laws, rules)

pub returns : goal.returns
returns c = search (answer_laws, rules)
