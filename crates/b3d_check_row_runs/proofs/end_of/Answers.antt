-- `end_of` adds up cell 3. The loop has counted the rows before i.
use Rattle.b3d_check_row_runs.proofs.EndLaws.{end_laws}
use borrow.Author.Rules.{rules}
use Rattle.b3d_check_row_runs.proofs.end_of.Goals as goal

pub overflow_add-i-end : goal.overflow_add-i-end
overflow_add-i-end c = search (end_laws, rules)

pub loop-i-init : goal.loop-i-init
loop-i-init c = search (end_laws, rules)

pub overflow_mul-i : goal.overflow_mul-i
overflow_mul-i c = search (end_laws, rules)

pub cell-many-requires : goal.cell-many-requires
cell-many-requires c = search (end_laws, rules)

pub overflow_add-r : goal.overflow_add-r
overflow_add-r c = search (end_laws, rules)

pub loop-i-preserved : goal.loop-i-preserved
loop-i-preserved c = search (end_laws, rules)

pub returns : goal.returns
returns c = search (end_laws, rules)
