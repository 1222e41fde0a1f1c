-- `put_ids` puts or counts ids. The loop has put those before the i-th.
use borrow.Author.Rules.{rules}
use Rattle.b3d_mend_write_brushes.proofs.IdPutLaws.{ids_laws}
use Rattle.b3d_mend_write_brushes.proofs.put_ids.Goals as goal

pub loop-i-init : goal.loop-i-init
loop-i-init c = search (ids_laws, rules)

pub overflow_mul-i : goal.overflow_mul-i
overflow_mul-i c = search (ids_laws, rules)

pub overflow_add-from : goal.overflow_add-from
overflow_add-from c = search (ids_laws, rules)

pub put_id-at-requires : goal.put_id-at-requires
put_id-at-requires c = search (ids_laws, rules)

pub loop-i-smaller : goal.loop-i-smaller
loop-i-smaller c = search (ids_laws, rules)

pub loop-i-preserved : goal.loop-i-preserved
loop-i-preserved c = search (ids_laws, rules)

pub shape_of-out : goal.shape_of-out
shape_of-out c = search (ids_laws, rules)

pub returns : goal.returns
returns c = search (ids_laws, rules)
