-- `put_table` puts the entries of some rows a turn: those from r on are left.
use Prim.Native.Nat.{◌-◌}
use Rattle.b3d_compare_tables.proofs.PlaceLaws.{file_laws, row_long, row_long_2, row-most, row_some, row_some_2, rows_sum, rows_less}
use Rattle.b3d_compare_tables.proofs.RowStepLaws.{left_laws, left_turns}
use borrow.Author.Rules.{rules}
use Rattle.b3d_compare_tables.proofs.put_table.Goals as goal

pub start-x-requires : goal.start-x-requires
start-x-requires c = search (left_laws, file_laws, rules)

pub start-y-requires : goal.start-y-requires
start-y-requires c = search (left_laws, file_laws, rules)

pub loop-r-init : goal.loop-r-init
loop-r-init c = search (left_laws, file_laws, rules)

pub put_rows-t-requires : goal.put_rows-t-requires
put_rows-t-requires c = let v = c.loop-r.invariant.both in let t = c.loop-r-test.true in record { x_bound = row-most _ _ _ _ _ _ _ _ _ _ _ v; le_k = (v.low, v.high, v.first_at, row_some _ _ _ _ _ _ _ _ _ _ _ v t, row_long _ _ _ _ _ _ _ _ _ _ _ v, v.second_at, row_some_2 _ _ _ _ _ _ _ _ _ _ _ v t, row_long_2 _ _ _ _ _ _ _ _ _ _ _ v, c.loop-r.invariant.left.fits) }

pub overflow_add-r : goal.overflow_add-r
overflow_add-r c = let n = rows_sum _ _ _ _ _ _ _ _ _ _ _ c.loop-r.invariant.both _ _ _ _ _ c.put_rows-t.ensures.on in search rules

pub loop-r-smaller : goal.loop-r-smaller
loop-r-smaller c = rows_less _ _ _ _ _ _ _ _ _ _ _ c.loop-r.invariant.both _ _ _ _ _ c.put_rows-t.ensures.on

pub loop-r-preserved : goal.loop-r-preserved
loop-r-preserved c = left_turns _ _ _ _ _ _ _ _ _ _ _ _ _ _ _ _ c.loop-r.invariant _ _ _ _ c.put_rows-t.ensures

pub shape_of-p : goal.shape_of-p
shape_of-p c = search (left_laws, file_laws, rules)

pub shape_of-q : goal.shape_of-q
shape_of-q c = search (left_laws, file_laws, rules)

pub shape_of-out : goal.shape_of-out
shape_of-out c = search (left_laws, file_laws, rules)

pub returns : goal.returns
returns c = search (left_laws, file_laws, rules)
