-- `put_sets` writes set by set. The loop has written the first i.
use Rattle.b3d_write_row_runs.proofs.RowByRowLaws.{rows_laws}
use Rattle.b3d_write_vertices.proofs.VertexLaws.{sets-each, sets_room, sets_next}
use borrow.Author.Rules.{rules}
use native.Mathlib.Omega.{arith}
use Rattle.b3d_write_vertices.proofs.put_sets.Goals as goal

pub loop-i-init : goal.loop-i-init
loop-i-init c = search (rows_laws, sets-each, rules)

pub slice_bounds-put_few-count : goal.slice_bounds-put_few-count
slice_bounds-put_few-count c = search (rows_laws, sets-each, rules)

pub slice_bounds-put_few-start : goal.slice_bounds-put_few-start
slice_bounds-put_few-start c = search (rows_laws, sets-each, rules)

pub slice_bounds-put_few-end : goal.slice_bounds-put_few-end
slice_bounds-put_few-end c = search (rows_laws, sets-each, rules)

pub put_few-n-requires : goal.put_few-n-requires
put_few-n-requires c = record {
  n_bound = search (rows_laws, rules);
  room = sets_room _ c.requires.size_le_largest_set.0 _ _ _ _ _ _ _ _ c.loop-i.invariant c.loop-i-test.true _ (omega arith);
}

pub overflow_add-at : goal.overflow_add-at
overflow_add-at c = search (rows_laws, sets-each, rules)

pub loop-i-preserved : goal.loop-i-preserved
loop-i-preserved c = sets_next _ c.requires.size_le_largest_set.0 _ _ _ _ _ _ _ _ c.loop-i.invariant c.loop-i-test.true _ _ _ c.put_few-n.ensures (omega arith)

pub shape_of-out : goal.shape_of-out
shape_of-out c = search (rows_laws, sets-each, rules)

pub returns : goal.returns
returns c = search (rows_laws, sets-each, rules)
