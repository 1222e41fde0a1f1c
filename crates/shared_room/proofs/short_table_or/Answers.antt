-- `short_table_or` compares the rows with those that have room.
use Rattle.shared_room.proofs.RoomLaws.{short_laws}
use borrow.Author.Rules.{rules}
use Rattle.shared_room.proofs.short_table_or.Goals as goal

pub nonzero_div-room : goal.nonzero_div-room
nonzero_div-room c = search (short_laws, rules)

pub returns-then-room-width : goal.returns-then-room-width
returns-then-room-width c = search (short_laws, rules)

pub returns : goal.returns
returns c = search (short_laws, rules)
