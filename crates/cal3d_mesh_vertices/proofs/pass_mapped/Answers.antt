-- `pass_mapped` answers `read_mapped`.
use Rattle.std.proofs.lemmas.Result.{err_from_is_err_and}
use borrow.Author.Rules.{rules}
use Rattle.cal3d_mesh_vertices.proofs.PartLaws.{parts}
use Rattle.cal3d_mesh_vertices.proofs.pass_mapped.Goals as goal

pub id_rows-requires : goal.id_rows-requires
id_rows-requires c = search (parts, rules)

pub returns-in_err-rows : goal.returns-in_err-rows
returns-in_err-rows c = let h = c.in_err-rows.was in let p = err_from_is_err_and c.from_residual.result c.from_residual.ensures.1 in rw (p.1, p.2) (search (parts, rules))

pub returns : goal.returns
returns c = let h = c.in_ok-rows.was in search (parts, rules)
