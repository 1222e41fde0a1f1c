-- `put_whole` puts or counts all that a cursor has left.
use Rattle.b3d_mend_write_edits.proofs.RestLaws.{whole_laws}
use borrow.Author.Rules.{rules}
use Rattle.b3d_mend_write_edits.proofs.put_whole.Goals as goal

pub overflow_sub-end : goal.overflow_sub-end
overflow_sub-end c = search (whole_laws, rules)

pub put_kept-requires : goal.put_kept-requires
put_kept-requires c = search (whole_laws, rules)

pub shape_of-out : goal.shape_of-out
shape_of-out c = search (whole_laws, rules)

pub returns : goal.returns
returns c = search (whole_laws, rules)
