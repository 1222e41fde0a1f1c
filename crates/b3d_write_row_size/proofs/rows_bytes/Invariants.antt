-- `rows_bytes` adds up the rows.
use Rattle.b3d_write_row_size.proofs.RowLaws.{Summed}
use Rattle.b3d_write_row_size.proofs.rows_bytes.Given as goal

abbrev pub invariant-loop-i : goal.invariant-loop-i
invariant-loop-i l = Summed l.which l.more l.width l.count l.table l.n l.i
