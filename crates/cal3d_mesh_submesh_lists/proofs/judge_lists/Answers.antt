-- `judge_lists` answers `read_lists`.
use Rattle.std.proofs.lemmas.Result.{err_from_is_err_and}
use native.Mathlib.Omega.{arith}
use borrow.Author.Rules.{rules}
use Rattle.cal3d_mesh_submesh_lists.proofs.ListLaws.{lists, lists_first, lists-maps}
use Rattle.cal3d_mesh_submesh_lists.proofs.judge_lists.Goals as goal

-- maps take bytes, so that their number fits
pub overflow_mul-maps : goal.overflow_mul-maps
overflow_mul-maps c = let h = c.in_ok-influences.was in
    let room = lists-maps _ _ _ _ _ _ 0 c.requires _ c.judge_vertices.ensures _ _ h in
    let i = c.requires in
    let k = lists_first _ _ _ _ _ _ 0 i _ c.judge_vertices.ensures _ _ h in
    omega arith

pub id_rows-requires : goal.id_rows-requires
id_rows-requires c = search (lists, rules)

pub returns-in_err-influences : goal.returns-in_err-influences
returns-in_err-influences c = let h = c.in_err-influences.was in let p = err_from_is_err_and c.from_residual.result c.from_residual.ensures.1 in rw (p.1, p.2) (search (lists, rules))

pub returns-in_err-second : goal.returns-in_err-second
returns-in_err-second c = let h₁ = c.in_ok-influences.was in let h₂ = c.in_err-second.was in let p = err_from_is_err_and c.from_residual-in_err-second.result c.from_residual-in_err-second.ensures.1 in rw (p.1, p.2) (search (lists, rules))

pub returns-in_err-next : goal.returns-in_err-next
returns-in_err-next c = let h₁ = c.in_ok-influences.was in let h₂ = c.in_ok-second.was in let h₃ = c.in_err-next.was in let p = err_from_is_err_and c.from_residual-in_err-next.result c.from_residual-in_err-next.ensures.1 in rw (p.1, p.2) (search (lists, rules))

pub returns : goal.returns
returns c = let h₁ = c.in_ok-influences.was in let h₂ = c.in_ok-second.was in let h₃ = c.in_ok-next.was in search (lists, rules)
