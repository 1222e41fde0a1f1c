-- `judge_submesh` answers `read_submesh`.
use Rattle.std.proofs.lemmas.Result.{err_from_is_err_and}
use borrow.Author.Rules.{rules}
use Rattle.cal3d_mesh_submeshes.proofs.SubmeshLaws.{submesh}
use Rattle.cal3d_mesh_submeshes.proofs.judge_submesh.Goals as goal

pub number_at-requires : goal.number_at-requires
number_at-requires c = search (submesh, rules)

pub judge_lists-requires : goal.judge_lists-requires
judge_lists-requires c = search (submesh, rules)

pub returns-in_err-lists : goal.returns-in_err-lists
returns-in_err-lists c = let h = c.in_err-lists.was in let p = err_from_is_err_and c.from_residual.result c.from_residual.ensures.1 in rw (p.1, p.2) (search (submesh, rules))

pub returns : goal.returns
returns c = let h = c.in_ok-lists.was in search (submesh, rules)
