-- `put_row` by its ways.
use borrow.Author.Rules.{rules}
use Rattle.b3d_compare_rows.proofs.PutLaws.{row_laws}
use Rattle.b3d_compare_rows.proofs.put_row.Goals as goal

pub put_plain-requires : goal.put_plain-requires
put_plain-requires c = record { k_bound = search rules; k_in_bounds = search rules; k_in_bounds_2 = search rules; numbers_from = search (row_laws, rules); room_from = search (row_laws, rules) }

pub returns-then-k-eq0 : goal.returns-then-k-eq0
returns-then-k-eq0 c = search (row_laws, rules)

pub put_plain-requires-then-k-ge4 : goal.put_plain-requires-then-k-ge4
put_plain-requires-then-k-ge4 c = record { k_bound = search rules; k_in_bounds = search rules; k_in_bounds_2 = search rules; numbers_from = search (row_laws, rules); room_from = search (row_laws, rules) }

pub returns-then-k-ge4 : goal.returns-then-k-ge4
returns-then-k-ge4 c = search (row_laws, rules)

pub put_name-next-requires : goal.put_name-next-requires
put_name-next-requires c = record { k_nonzero = (search (row_laws, rules), search rules); k_in_bounds = search rules; k_in_bounds_2 = search rules; room_from = search (row_laws, rules) }

pub put_plain-requires-2 : goal.put_plain-requires-2
put_plain-requires-2 c = record { k_bound = search rules; k_in_bounds = search rules; k_in_bounds_2 = search rules; numbers_from = search (row_laws, rules); room_from = search (row_laws, rules) }

pub returns : goal.returns
returns c = search (row_laws, rules)
