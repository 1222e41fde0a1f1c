-- `put_turn` reads a row of each file, then puts the entries of both.
use Rattle.b3d_compare_next_rows.proofs.NextLaws.{turn-high, turn-first, turn-second, turn_fits, turn_puts}
use Rattle.b3d_compare_next_rows.proofs.put_turn.Goals as goal

pub put_row-next-requires : goal.put_row-next-requires
put_row-next-requires c = let na = c.next_row-first.ensures in let nb = c.next_row-second.ensures in let ek = c.size.ensures in let pre = c.requires in record { k_bound = turn-high _ pre.0 pre.1 _ _ _ _ _ _ pre.4 pre.7 _ _ _ _ na nb _ ek; k_in_bounds = turn-first _ pre.0 pre.1 _ _ _ _ _ _ pre.4 pre.7 _ _ _ _ na nb _ ek; k_in_bounds_2 = turn-second _ pre.0 pre.1 _ _ _ _ _ _ pre.4 pre.7 _ _ _ _ na nb _ ek; room_from = turn_fits _ pre.0 pre.1 _ _ _ _ _ _ pre.4 pre.7 _ _ _ _ na nb _ ek _ _ _ _ pre.8 }

pub returns : goal.returns
returns c = let na = c.next_row-first.ensures in let nb = c.next_row-second.ensures in let ek = c.size.ensures in let pre = c.requires in turn_puts _ pre.0 pre.1 _ _ _ _ _ _ pre.4 pre.7 _ _ _ _ na nb _ ek _ _ _ _ _ _ c.put_row-next.ensures
