-- `rows_bytes` adds up the rows.
use Rattle.b3d_write_row_size.proofs.RowLaws.{sum_laws}
use borrow.Author.Rules.{rules}
use Rattle.b3d_write_row_size.proofs.rows_bytes.Goals as goal

pub loop-i-init : goal.loop-i-init
loop-i-init c = search (sum_laws, rules)

pub overflow_mul-width : goal.overflow_mul-width
overflow_mul-width c = search (sum_laws, rules)

pub row_bytes-n-requires : goal.row_bytes-n-requires
row_bytes-n-requires c = search (sum_laws, rules)

pub overflow_add-n : goal.overflow_add-n
overflow_add-n c = search (sum_laws, rules)

pub loop-i-preserved : goal.loop-i-preserved
loop-i-preserved c = search (sum_laws, rules)

pub returns : goal.returns
returns c = search (sum_laws, rules)
