-- `put_runs` writes a chunk for each row. The loop has written those before i.
use Rattle.b3d_write_item_lists.proofs.GroupByGroupLaws.{runs_laws}
use Rattle.b3d_write_item_lists.proofs.RunLaws.{runs_are}
use borrow.Author.Rules.{rules}
use Rattle.b3d_write_item_lists.proofs.put_runs.Goals as goal

pub loop-i-init : goal.loop-i-init
loop-i-init c = search (runs_laws, runs_are, rules)

pub overflow_add-row : goal.overflow_add-row
overflow_add-row c = search (runs_laws, runs_are, rules)

pub overflow_mul-row : goal.overflow_mul-row
overflow_mul-row c = search (runs_laws, runs_are, rules)

pub overflow_add-row-in-loop-i : goal.overflow_add-row-in-loop-i
overflow_add-row-in-loop-i c = search (runs_laws, runs_are, rules)

pub number-n-requires : goal.number-n-requires
number-n-requires c = search (runs_laws, runs_are, rules)

pub overflow_add-row-in-loop-i-2 : goal.overflow_add-row-in-loop-i-2
overflow_add-row-in-loop-i-2 c = search (runs_laws, runs_are, rules)

pub offset_bounds-rows-row : goal.offset_bounds-rows-row
offset_bounds-rows-row c = search (runs_laws, runs_are, rules)

pub bounds-rows-row : goal.bounds-rows-row
bounds-rows-row c = search (runs_laws, runs_are, rules)

pub slice_bounds-put_run-count : goal.slice_bounds-put_run-count
slice_bounds-put_run-count c = search (runs_laws, runs_are, rules)

pub slice_bounds-put_run-start : goal.slice_bounds-put_run-start
slice_bounds-put_run-start c = search (runs_laws, runs_are, rules)

pub slice_bounds-put_run-end : goal.slice_bounds-put_run-end
slice_bounds-put_run-end c = search (runs_laws, rules)

pub put_run-size-requires : goal.put_run-size-requires
put_run-size-requires c = search (runs_laws, rules)

pub overflow_add-at : goal.overflow_add-at
overflow_add-at c = search (runs_laws, runs_are, rules)

pub overflow_add-next : goal.overflow_add-next
overflow_add-next c = search (runs_laws, runs_are, rules)

pub loop-i-preserved : goal.loop-i-preserved
loop-i-preserved c = search (runs_laws, rules)

pub shape_of-out : goal.shape_of-out
shape_of-out c = search (runs_laws, runs_are, rules)

pub returns : goal.returns
returns c = search (runs_laws, rules)
