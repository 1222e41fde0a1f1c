-- `vertices_left` answers `rows_valid` of vertices.
use Rattle.b3d_check_mesh.proofs.MeshLaws.{left_laws}
use borrow.Author.Rules.{rules}
use Rattle.b3d_check_mesh.proofs.vertices_left.Goals as goal

pub overflow_sub-total : goal.overflow_sub-total
overflow_sub-total c = search (left_laws, rules)

pub returns-then-total-first : goal.returns-then-total-first
returns-then-total-first c = search (left_laws, rules)

pub vertices_valid-requires : goal.vertices_valid-requires
vertices_valid-requires c = search (left_laws, rules)

pub returns : goal.returns
returns c = search (left_laws, rules)
