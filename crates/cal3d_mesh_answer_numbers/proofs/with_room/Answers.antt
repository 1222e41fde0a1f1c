-- `with_room` answers 11 only where the judge accepts.
use native.Mathlib.Omega.{arith}
use borrow.Author.Rules.{rules}
use Rattle.cal3d_mesh_answer_numbers.proofs.RoomLaws.{room_laws}
use Rattle.cal3d_mesh_answer_numbers.proofs.with_room.Goals as goal

pub returns-then-judged-ne0 : goal.returns-then-judged-ne0
returns-then-judged-ne0 c = search (room_laws, rules)

pub overflow_cast-short : goal.overflow_cast-short
overflow_cast-short c = record { fits = omega arith }

pub returns-then-short-ne0 : goal.returns-then-short-ne0
returns-then-short-ne0 c = search (room_laws, rules)

pub returns : goal.returns
returns c = search (room_laws, rules)
