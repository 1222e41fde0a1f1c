-- `anim_valid` answers `anim_valid` of the row by its cells.
use Rattle.b3d_check_node.proofs.NodeLaws.{anim-there, anim_none}
use borrow.Author.Rules.{rules}
use Rattle.b3d_check_node.proofs.anim_valid.Goals as goal

pub overflow_mul-o : goal.overflow_mul-o
overflow_mul-o c = search (anim-there, anim_none, rules)

pub overflow_add-there : goal.overflow_add-there
overflow_add-there c = search (anim-there, anim_none, rules)

pub offset_bounds-t-o : goal.offset_bounds-t-o
offset_bounds-t-o c = search (anim-there, anim_none, rules)

pub bounds-t-o : goal.bounds-t-o
bounds-t-o c = search (anim-there, anim_none, rules)

pub returns-then-there-eq1 : goal.returns-then-there-eq1
returns-then-there-eq1 c = search (anim-there, anim_none, rules)

pub overflow_add-result : goal.overflow_add-result
overflow_add-result c = search (anim-there, anim_none, rules)

pub offset_bounds-t-o-2 : goal.offset_bounds-t-o-2
offset_bounds-t-o-2 c = search (anim-there, anim_none, rules)

pub bounds-t-o-2 : goal.bounds-t-o-2
bounds-t-o-2 c = search (anim-there, anim_none, rules)

pub overflow_add-result-2 : goal.overflow_add-result-2
overflow_add-result-2 c = search (anim-there, anim_none, rules)

pub offset_bounds-t-o-3 : goal.offset_bounds-t-o-3
offset_bounds-t-o-3 c = search (anim-there, anim_none, rules)

pub bounds-t-o-3 : goal.bounds-t-o-3
bounds-t-o-3 c = search (anim-there, anim_none, rules)

pub overflow_add-result-3 : goal.overflow_add-result-3
overflow_add-result-3 c = search (anim-there, anim_none, rules)

pub offset_bounds-t-o-4 : goal.offset_bounds-t-o-4
offset_bounds-t-o-4 c = search (anim-there, anim_none, rules)

pub bounds-t-o-4 : goal.bounds-t-o-4
bounds-t-o-4 c = search (anim-there, anim_none, rules)

pub returns : goal.returns
returns c = search (anim_none, c.if-there-eq1.false, rules)
