-- `put_rest` puts or counts what is left where no chunk is.
use Rattle.b3d_mend_write_edits.proofs.RestLaws.{rest_laws}
use borrow.Author.Rules.{rules}
use Rattle.b3d_mend_write_edits.proofs.put_rest.Goals as goal

pub overflow_sub-end : goal.overflow_sub-end
overflow_sub-end c = search (rest_laws, rules)

pub overflow_sub-end-then-end-from-lt8 : goal.overflow_sub-end-then-end-from-lt8
overflow_sub-end-then-end-from-lt8 c = search (rest_laws, rules)

pub put_taken-requires : goal.put_taken-requires
put_taken-requires c = search (rest_laws, rules)

pub shape_of-out-then-end-from-lt8 : goal.shape_of-out-then-end-from-lt8
shape_of-out-then-end-from-lt8 c = search (rest_laws, rules)

pub returns-then-end-from-lt8 : goal.returns-then-end-from-lt8
returns-then-end-from-lt8 c = search (rest_laws, rules)

pub put_whole-requires : goal.put_whole-requires
put_whole-requires c = search (rest_laws, rules)

pub shape_of-out : goal.shape_of-out
shape_of-out c = search (rest_laws, rules)

pub returns : goal.returns
returns c = search (rest_laws, rules)
