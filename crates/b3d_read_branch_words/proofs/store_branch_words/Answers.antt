-- `store_branch_words` goes from the last row to the first: those from `node` on have their words.
use Rattle.b3d_read_branch_words.proofs.BranchLaws.{pass_laws}
use borrow.Author.Rules.{rules}
use Rattle.b3d_read_branch_words.proofs.store_branch_words.Goals as goal

pub loop-node-init : goal.loop-node-init
loop-node-init c = search (pass_laws, rules)

pub below-requires : goal.below-requires
below-requires c = search (pass_laws, rules)

pub cell-word-requires : goal.cell-word-requires
cell-word-requires c = search (pass_laws, rules)

pub overflow_mul-o : goal.overflow_mul-o
overflow_mul-o c = search (pass_laws, rules)

pub overflow_add-o : goal.overflow_add-o
overflow_add-o c = search (pass_laws, rules)

pub offset_bounds-out-o : goal.offset_bounds-out-o
offset_bounds-out-o c = search (pass_laws, rules)

pub bounds-out-o : goal.bounds-out-o
bounds-out-o c = search (pass_laws, rules)

pub loop-node-preserved : goal.loop-node-preserved
loop-node-preserved c = search (pass_laws, rules)

pub shape_of-out : goal.shape_of-out
shape_of-out c = search (pass_laws, rules)

pub returns : goal.returns
returns c = search (pass_laws, rules)
