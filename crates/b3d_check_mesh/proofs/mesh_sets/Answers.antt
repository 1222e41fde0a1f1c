-- `mesh_sets` answers `mesh_sets` of the row by its cells.
use Rattle.b3d_check_mesh.proofs.MeshLaws.{sets_laws}
use borrow.Author.Rules.{rules}
use Rattle.b3d_check_mesh.proofs.mesh_sets.Goals as goal

pub overflow_mul-o : goal.overflow_mul-o
overflow_mul-o c = search (sets_laws, rules)

pub overflow_add-o : goal.overflow_add-o
overflow_add-o c = search (sets_laws, rules)

pub cell-to-requires : goal.cell-to-requires
cell-to-requires c = search (sets_laws, rules)

pub overflow_add-o-2 : goal.overflow_add-o-2
overflow_add-o-2 c = search (sets_laws, rules)

pub cell-count-requires : goal.cell-count-requires
cell-count-requires c = search (sets_laws, rules)

pub returns-then-not-to-first : goal.returns-then-not-to-first
returns-then-not-to-first c = search (sets_laws, rules)

pub returns-then-count-le0 : goal.returns-then-count-le0
returns-then-count-le0 c = search (sets_laws, rules)

pub overflow_sub-total : goal.overflow_sub-total
overflow_sub-total c = search (sets_laws, rules)

pub returns-then-total-first : goal.returns-then-total-first
returns-then-total-first c = search (sets_laws, rules)

pub overflow_add-v : goal.overflow_add-v
overflow_add-v c = search (sets_laws, rules)

pub offset_bounds-t-o : goal.offset_bounds-t-o
offset_bounds-t-o c = search (sets_laws, rules)

pub bounds-t-o : goal.bounds-t-o
bounds-t-o c = search (sets_laws, rules)

pub groups_valid-requires : goal.groups_valid-requires
groups_valid-requires c = search (sets_laws, rules)

pub returns : goal.returns
returns c = search (sets_laws, rules)
