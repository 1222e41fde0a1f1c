-- `id_row_valid` answers `keeps` of the row by what the row is.
use Rattle.b3d_check_rows.proofs.RowLaws.{id_laws}
use borrow.Author.Rules.{rules}
use Rattle.b3d_check_rows.proofs.id_row_valid.Goals as goal

pub triangle_valid-requires : goal.triangle_valid-requires
triangle_valid-requires c = search (id_laws, rules)

pub weight_valid-requires : goal.weight_valid-requires
weight_valid-requires c = search (id_laws, rules)

pub returns-in-Triangles : goal.returns-in-Triangles
returns-in-Triangles c = search (id_laws, rules)

pub returns-in-Weights : goal.returns-in-Weights
returns-in-Weights c = search (id_laws, rules)
