-- `bones_below` says the node's own vertices where it has an ANIM, else what it was told.
use Rattle.b3d_check_parents.proofs.PathLaws.{bones_laws}
use borrow.Author.Rules.{rules}
use Rattle.b3d_check_parents.proofs.bones_below.Goals as goal

pub overflow_mul-before : goal.overflow_mul-before
overflow_mul-before c = search (bones_laws, rules)

pub overflow_add-before : goal.overflow_add-before
overflow_add-before c = search (bones_laws, rules)

pub offset_bounds-t3-before : goal.offset_bounds-t3-before
offset_bounds-t3-before c = search (bones_laws, rules)

pub bounds-t3-before : goal.bounds-t3-before
bounds-t3-before c = search (bones_laws, rules)

pub overflow_sub-after : goal.overflow_sub-after
overflow_sub-after c = search (bones_laws, rules)

pub cell-requires : goal.cell-requires
cell-requires c = search (bones_laws, rules)

pub returns-then-t3-before-eq1 : goal.returns-then-t3-before-eq1
returns-then-t3-before-eq1 c = search (bones_laws, rules)

pub returns : goal.returns
returns c = search (bones_laws, rules)
