-- `node_valid` answers `node_valid` by its parts.
use Rattle.b3d_check_rows.proofs.AndLaws.{ands}
use Rattle.b3d_check_node.proofs.NodeLaws.{node-parts}
use borrow.Author.Rules.{rules}
use Rattle.b3d_check_node.proofs.node_valid.Goals as goal

pub overflow_mul-o : goal.overflow_mul-o
overflow_mul-o c = search (node-parts, ands, rules)

pub offset_bounds-t3-o : goal.offset_bounds-t3-o
offset_bounds-t3-o c = search (node-parts, ands, rules)

pub bounds-t3-o : goal.bounds-t3-o
bounds-t3-o c = search (node-parts, ands, rules)

pub overflow_add-o : goal.overflow_add-o
overflow_add-o c = search (node-parts, ands, rules)

pub offset_bounds-t3-o-2 : goal.offset_bounds-t3-o-2
offset_bounds-t3-o-2 c = search (node-parts, ands, rules)

pub bounds-t3-o-2 : goal.bounds-t3-o-2
bounds-t3-o-2 c = search (node-parts, ands, rules)

pub name_valid-requires : goal.name_valid-requires
name_valid-requires c = search (node-parts, ands, rules)

pub returns-then-not-name_valid : goal.returns-then-not-name_valid
returns-then-not-name_valid c = search (node-parts, ands, rules)

pub kind_valid-requires : goal.kind_valid-requires
kind_valid-requires c = search (node-parts, ands, rules)

pub returns-then-not-kind_valid : goal.returns-then-not-kind_valid
returns-then-not-kind_valid c = search (node-parts, ands, rules)

pub own_lists-requires : goal.own_lists-requires
own_lists-requires c = search (node-parts, ands, rules)

pub returns-then-not-own_lists : goal.returns-then-not-own_lists
returns-then-not-own_lists c = search (node-parts, ands, rules)

pub anim_valid-requires : goal.anim_valid-requires
anim_valid-requires c = search (node-parts, ands, rules)

pub returns : goal.returns
returns c = search (node-parts, ands, rules)
