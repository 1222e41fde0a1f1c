-- `mesh_valid` answers `mesh_valid` by its parts.
use Rattle.b3d_check_rows.proofs.AndLaws.{ands}
use Rattle.b3d_check_mesh.proofs.MeshLaws.{mesh-parts}
use borrow.Author.Rules.{rules}
use Rattle.b3d_check_mesh.proofs.mesh_valid.Goals as goal

pub overflow_mul-o : goal.overflow_mul-o
overflow_mul-o c = search (mesh-parts, ands, rules)

pub overflow_add-o : goal.overflow_add-o
overflow_add-o c = search (mesh-parts, ands, rules)

pub cell-count-requires : goal.cell-count-requires
cell-count-requires c = search (mesh-parts, ands, rules)

pub mesh_head-requires : goal.mesh_head-requires
mesh_head-requires c = search (mesh-parts, ands, rules)

pub returns-then-not-mesh_head : goal.returns-then-not-mesh_head
returns-then-not-mesh_head c = search (mesh-parts, ands, rules)

pub overflow_add-o-2 : goal.overflow_add-o-2
overflow_add-o-2 c = search (mesh-parts, ands, rules)

pub offset_bounds-t4-o : goal.offset_bounds-t4-o
offset_bounds-t4-o c = search (mesh-parts, ands, rules)

pub bounds-t4-o : goal.bounds-t4-o
bounds-t4-o c = search (mesh-parts, ands, rules)

pub overflow_add-o-3 : goal.overflow_add-o-3
overflow_add-o-3 c = search (mesh-parts, ands, rules)

pub offset_bounds-t4-o-2 : goal.offset_bounds-t4-o-2
offset_bounds-t4-o-2 c = search (mesh-parts, ands, rules)

pub bounds-t4-o-2 : goal.bounds-t4-o-2
bounds-t4-o-2 c = search (mesh-parts, ands, rules)

pub overflow_add-o-4 : goal.overflow_add-o-4
overflow_add-o-4 c = search (mesh-parts, ands, rules)

pub offset_bounds-t4-o-3 : goal.offset_bounds-t4-o-3
offset_bounds-t4-o-3 c = search (mesh-parts, ands, rules)

pub bounds-t4-o-3 : goal.bounds-t4-o-3
bounds-t4-o-3 c = search (mesh-parts, ands, rules)

pub vertices_left-requires : goal.vertices_left-requires
vertices_left-requires c = search (mesh-parts, ands, rules)

pub returns-then-not-vertices_left : goal.returns-then-not-vertices_left
returns-then-not-vertices_left c = search (mesh-parts, ands, rules)

pub mesh_sets-requires : goal.mesh_sets-requires
mesh_sets-requires c = search (mesh-parts, ands, rules)

pub returns : goal.returns
returns c = search (mesh-parts, ands, rules)
