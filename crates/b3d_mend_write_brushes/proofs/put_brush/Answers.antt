-- `put_brush` puts or counts a brush.
use borrow.Author.Rules.{rules}
use Rattle.b3d_mend_write_brushes.proofs.BrushPutLaws.{brush_laws, brush-front, brush-ids, brush-first, brush-second, brush-done}
use Rattle.b3d_mend_write_brushes.proofs.put_brush.Goals as goal

pub overflow_add-ids : goal.overflow_add-ids
overflow_add-ids c = search (brush_laws, rules)

pub overflow_sub-ids : goal.overflow_sub-ids
overflow_sub-ids c = search (brush_laws, rules)

pub put_kept-next-requires : goal.put_kept-next-requires
put_kept-next-requires c = record { count_in_bounds = search (brush-front, rules); room_from = search (brush-first, rules) }

pub put_ids-requires : goal.put_ids-requires
put_ids-requires c = record { n_in_bounds = search (brush-ids, rules); room_from = search (brush-second, rules) }

pub shape_of-out : goal.shape_of-out
shape_of-out c = search (brush_laws, rules)

pub returns : goal.returns
returns c = search (brush-done, rules)
