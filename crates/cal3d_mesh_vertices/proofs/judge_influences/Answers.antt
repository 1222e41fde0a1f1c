-- `judge_influences` answers `read_influences`.
use Rattle.std.proofs.lemmas.Result.{err_from_is_err_and}
use borrow.Author.Rules.{rules}
use Rattle.cal3d_mesh_vertices.proofs.PartLaws.{parts}
use Rattle.cal3d_mesh_vertices.proofs.judge_influences.Goals as goal

pub returns-then-stored-gt2147483647 : goal.returns-then-stored-gt2147483647
returns-then-stored-gt2147483647 c = search (parts, rules)

pub id_rows-requires : goal.id_rows-requires
id_rows-requires c = search (parts, rules)

pub returns-in_default : goal.returns-in_default
returns-in_default c = search (parts, rules)

pub returns-in_err-next : goal.returns-in_err-next
returns-in_err-next c = let h = c.in_err-next.was in let p = err_from_is_err_and c.from_residual.result c.from_residual.ensures.1 in rw (p.1, p.2) (search (parts, rules))

pub returns : goal.returns
returns c = let h = c.in_ok-next.was in search (parts, rules)
