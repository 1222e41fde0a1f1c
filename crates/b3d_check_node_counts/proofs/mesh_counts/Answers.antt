-- `mesh_counts` counts on by the cells of the mesh row.
use Rattle.b3d_check_node_counts.proofs.CountLaws.{mesh-count, end_low}
use borrow.Author.Rules.{rules}
use Rattle.b3d_check_node_counts.proofs.mesh_counts.Goals as goal

pub overflow_mul-o : goal.overflow_mul-o
overflow_mul-o c = search (mesh-count, end_low, rules)

pub overflow_add-o : goal.overflow_add-o
overflow_add-o c = search (mesh-count, end_low, rules)

pub cell-vertices-requires : goal.cell-vertices-requires
cell-vertices-requires c = search (mesh-count, end_low, rules)

pub overflow_add-o-2 : goal.overflow_add-o-2
overflow_add-o-2 c = search (mesh-count, end_low, rules)

pub cell-sets-requires : goal.cell-sets-requires
cell-sets-requires c = search (mesh-count, end_low, rules)

pub end_of-triangles-requires : goal.end_of-triangles-requires
end_of-triangles-requires c = search (mesh-count, end_low, rules)

pub overflow_add-m : goal.overflow_add-m
overflow_add-m c = search (mesh-count, end_low, rules)

pub overflow_add-m-2 : goal.overflow_add-m-2
overflow_add-m-2 c = search (mesh-count, end_low, rules)

pub overflow_add-m-3 : goal.overflow_add-m-3
overflow_add-m-3 c = search (mesh-count, end_low, rules)

pub returns : goal.returns
returns c = search (mesh-count, end_low, rules)
