-- `put_key_rows` writes rows by the runs of a key. The loop has written the first i.
use Rattle.b3d_rule_row_masks.proofs.MaskLaws.{known_runs}
use Rattle.b3d_write_row_runs.proofs.RowByRowLaws.{rows_done, rows_laws}
use Rattle.b3d_write_row_runs.proofs.PresentWordLaws.{from_room, from_next, known_start, known-put}
use borrow.Author.Rules.{rules}
use native.Mathlib.Omega.{arith}
use Rattle.b3d_write_keys.proofs.put_key_rows.Goals as goal

pub loop-i-init : goal.loop-i-init
loop-i-init c = search (known_start, known_runs, rules)

pub overflow_add-first : goal.overflow_add-first
overflow_add-first c = search (rows_laws, known_runs, rules)

pub overflow_mul-first : goal.overflow_mul-first
overflow_mul-first c = search (rows_laws, known_runs, rules)

pub slice_bounds-put_key-count : goal.slice_bounds-put_key-count
slice_bounds-put_key-count c = search (rows_laws, known_runs, rules)

pub slice_bounds-put_key-start : goal.slice_bounds-put_key-start
slice_bounds-put_key-start c = search (rows_laws, known_runs, rules)

pub slice_bounds-put_key-end : goal.slice_bounds-put_key-end
slice_bounds-put_key-end c = search (rows_laws, known_runs, rules)

pub put_key-n-requires : goal.put_key-n-requires
put_key-n-requires c = record {
  short = search (rows_laws, known_runs, rules);
  room = from_room _ _ _ _ _ (search (known_runs, rules)) (search (known_runs, rules)) _ _ _ _ c.loop-i.invariant c.loop-i-test.true _ (omega arith);
}

pub overflow_add-at : goal.overflow_add-at
overflow_add-at c = search (rows_laws, known_runs, rules)

pub loop-i-preserved : goal.loop-i-preserved
loop-i-preserved c =
    from_next _ _ _ _ _ (search (known_runs, rules)) (search (known_runs, rules)) _ _ _ _ c.loop-i.invariant c.loop-i-test.true _ _ _ c.put_key-n.ensures (omega arith)

pub shape_of-out : goal.shape_of-out
shape_of-out c = search (rows_laws, known_runs, rules)

pub returns : goal.returns
returns c = search (known-put, rows_done, known_runs)
