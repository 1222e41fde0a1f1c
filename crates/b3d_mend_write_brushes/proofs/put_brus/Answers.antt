-- `put_brus` puts or counts a BRUS.
use Rattle.b3d_mend_write_brushes.proofs.BrusPutLaws.{brus_laws, brus_four, brus_inside, brus_small, brus_first, brus_second, brus_over}
use borrow.Author.Rules.{rules}
use Rattle.b3d_mend_write_brushes.proofs.put_brus.Goals as goal

pub number-requires : goal.number-requires
number-requires c = search (brus_laws, rules)

pub returns-then-slots-gt-MOST_SLOTS : goal.returns-then-slots-gt-MOST_SLOTS
returns-then-slots-gt-MOST_SLOTS c = search (brus_over, rules)

pub size-n-requires : goal.size-n-requires
size-n-requires c = search (brus_laws, rules)

pub put_kept-next-requires : goal.put_kept-next-requires
put_kept-next-requires c = record { count_in_bounds = search (brus_four, rules); room_from = search (brus_first, rules) }

pub put_brushes-requires : goal.put_brushes-requires
put_brushes-requires c = record { inside = search (brus_inside, rules); file_len_bound = search (brus_small, rules); room_from = search (brus_second, rules) }

pub shape_of-out : goal.shape_of-out
shape_of-out c = search (brus_laws, rules)

pub returns-in_default : goal.returns-in_default
returns-in_default c = search (brus_laws, rules)

pub returns : goal.returns
returns c = search (brus_laws, rules)
