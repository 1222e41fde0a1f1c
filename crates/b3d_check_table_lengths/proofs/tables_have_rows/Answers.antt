-- `tables_have_rows` answers `rooms`.
use Rattle.b3d_check_table_lengths.proofs.RoomLaws.{rooms_are}
use borrow.Author.Rules.{rules}
use Rattle.b3d_check_table_lengths.proofs.tables_have_rows.Goals as goal

pub returns : goal.returns
returns c = search (rooms_are, rules)
