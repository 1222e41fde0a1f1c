-- `sizes` takes each count.
use Rattle.b3d_check_table_lengths.proofs.RoomLaws.{sizes_are}
use borrow.Author.Rules.{rules}
use Rattle.b3d_check_table_lengths.proofs.sizes.Goals as goal

pub returns : goal.returns
returns c = search (sizes_are, rules)
