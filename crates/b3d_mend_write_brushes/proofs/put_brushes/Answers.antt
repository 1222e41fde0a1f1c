-- `put_brushes` puts or counts brushes to the end. The loop has put those before a cursor; its measure is what is left.
use Rattle.b3d_mend_write_brushes.proofs.ListPutLaws.{brushes_laws, brush_at, brush-fits, brush_less, brushes_next}
use borrow.Author.Rules.{rules}
use Rattle.b3d_mend_write_brushes.proofs.put_brushes.Goals as goal

pub loop-c-init : goal.loop-c-init
loop-c-init c = search (brushes_laws, rules)

pub overflow_add-slots : goal.overflow_add-slots
overflow_add-slots c = search (brushes_laws, rules)

pub named_row-requires : goal.named_row-requires
named_row-requires c = search (brushes_laws, rules)

pub put_brush-at-requires : goal.put_brush-at-requires
put_brush-at-requires c = record { brush_at = search (brush_at, rules); file_len_bound = search rules; room_from = search (brush-fits, rules) }

pub loop-c-smaller : goal.loop-c-smaller
loop-c-smaller c = search (brush_less, rules)

pub loop-c-preserved : goal.loop-c-preserved
loop-c-preserved c = search (brushes_next, rules)

pub shape_of-out : goal.shape_of-out
shape_of-out c = search (brushes_laws, rules)

pub returns : goal.returns
returns c = search (brushes_laws, rules)

pub returns-in_default : goal.returns-in_default
returns-in_default c = search (brushes_laws, rules)
