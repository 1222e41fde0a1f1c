-- `kind_counts` counts on by kind and count.
use Rattle.b3d_check_node_counts.proofs.CountLaws.{kind-counted}
use borrow.Author.Rules.{rules}
use Rattle.b3d_check_node_counts.proofs.kind_counts.Goals as goal

pub mesh_counts-requires : goal.mesh_counts-requires
mesh_counts-requires c = search (kind-counted, rules)

pub returns-then-kind-eq1 : goal.returns-then-kind-eq1
returns-then-kind-eq1 c = search (kind-counted, rules)

pub overflow_add-m : goal.overflow_add-m
overflow_add-m c = search (kind-counted, rules)

pub returns-then-kind-eq2 : goal.returns-then-kind-eq2
returns-then-kind-eq2 c = search (kind-counted, rules)

pub returns : goal.returns
returns c = search (kind-counted, c.if-kind-eq1.false, c.if-kind-eq2.false, rules)
