-- `put_sets` stores the sets of a vertex that are there, then zeros for the others.
use borrow.Author.Rules.{rules}
use Rattle.b3d_read_vertex_rows.proofs.SetLaws.{sets_laws}
use Rattle.b3d_read_vertex_rows.proofs.put_sets.Goals as goal

pub loop-init : goal.loop-init
loop-init c = search (sets_laws, rules)

pub put_four-requires : goal.put_four-requires
put_four-requires c = search (sets_laws, rules)

pub overflow_add-p : goal.overflow_add-p
overflow_add-p c = search (sets_laws, rules)

pub overflow_add-o : goal.overflow_add-o
overflow_add-o c = search (sets_laws, rules)

pub loop-preserved : goal.loop-preserved
loop-preserved c = search (sets_laws, rules)

pub zero_sets-requires : goal.zero_sets-requires
zero_sets-requires c = search (sets_laws, rules)

pub shape_of-out : goal.shape_of-out
shape_of-out c = search (sets_laws, rules)

pub returns : goal.returns
returns c = search (sets_laws, rules)
