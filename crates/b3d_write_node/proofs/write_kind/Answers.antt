-- `write_kind` writes the chunk of a kind, if it has one.
use Rattle.shared_output.proofs.PartLaws.{same_laws}
use Rattle.b3d_write_node.proofs.KindLaws.{kind_laws}
use borrow.Author.Rules.{rules}
use Rattle.b3d_write_node.proofs.write_kind.Goals as goal

pub overflow_add-row : goal.overflow_add-row
overflow_add-row c = search (same_laws, kind_laws, rules)

pub offset_bounds-t3-row : goal.offset_bounds-t3-row
offset_bounds-t3-row c = search (same_laws, kind_laws, rules)

pub bounds-t3-row : goal.bounds-t3-row
bounds-t3-row c = search (same_laws, kind_laws, rules)

pub overflow_mul-i : goal.overflow_mul-i
overflow_mul-i c = search (same_laws, kind_laws, rules)

pub write_mesh-requires : goal.write_mesh-requires
write_mesh-requires c = search (same_laws, kind_laws, rules)

pub shape_of-out-then-t3-row-eq1 : goal.shape_of-out-then-t3-row-eq1
shape_of-out-then-t3-row-eq1 c = search (same_laws, kind_laws, rules)

pub returns-then-t3-row-eq1 : goal.returns-then-t3-row-eq1
returns-then-t3-row-eq1 c = search (same_laws, kind_laws, rules)

pub overflow_add-row-2 : goal.overflow_add-row-2
overflow_add-row-2 c = search (same_laws, kind_laws, rules)

pub offset_bounds-t3-row-2 : goal.offset_bounds-t3-row-2
offset_bounds-t3-row-2 c = search (same_laws, kind_laws, rules)

pub bounds-t3-row-2 : goal.bounds-t3-row-2
bounds-t3-row-2 c = search (same_laws, kind_laws, rules)

pub overflow_add-row-then-t3-row-eq2 : goal.overflow_add-row-then-t3-row-eq2
overflow_add-row-then-t3-row-eq2 c = search (same_laws, kind_laws, rules)

pub number-many-requires : goal.number-many-requires
number-many-requires c = search (same_laws, kind_laws, rules)

pub put_weights-requires : goal.put_weights-requires
put_weights-requires c = search (same_laws, kind_laws, rules)

pub shape_of-out-then-t3-row-eq2 : goal.shape_of-out-then-t3-row-eq2
shape_of-out-then-t3-row-eq2 c = search (same_laws, kind_laws, rules)

pub returns-then-t3-row-eq2 : goal.returns-then-t3-row-eq2
returns-then-t3-row-eq2 c = search (same_laws, kind_laws, rules)

pub returns : goal.returns
returns c = search (same_laws, kind_laws, rules)
