-- `with_room` looks for the first table that is too short.
use Rattle.b3d_read_answer_numbers.proofs.RoomAnswerLaws.{room_laws}
use borrow.Author.Rules.{rules}
use Rattle.b3d_read_answer_numbers.proofs.with_room.Goals as goal

pub first_short-short-requires : goal.first_short-short-requires
first_short-short-requires c = search (room_laws, rules)

pub refused-requires : goal.refused-requires
refused-requires c = search (room_laws, rules)

pub returns-then-short-ne0 : goal.returns-then-short-ne0
returns-then-short-ne0 c = search (room_laws, rules)

pub accepted-requires : goal.accepted-requires
accepted-requires c = search (room_laws, rules)

pub returns : goal.returns
returns c = search (room_laws, rules)
