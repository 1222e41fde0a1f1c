-- `put_twelve` lends both rows.
use borrow.Author.Rules.{rules}
use Rattle.b3d_compare_rows.proofs.PutLaws.{twelve-long}
use Rattle.b3d_compare_rows.proofs.put_twelve.Goals as goal

pub put_row-requires : goal.put_row-requires
put_row-requires c = record { k_bound = search rules; k_in_bounds = search (twelve-long, rules); k_in_bounds_2 = search (twelve-long, rules); room_from = search rules }
