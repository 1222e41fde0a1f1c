-- `judge_vertex` answers `read_vertex`.
use Rattle.std.proofs.lemmas.Result.{err_from_is_err_and}
use borrow.Author.Rules.{rules}
use Rattle.cal3d_mesh_vertices.proofs.VertexLaws.{vertex}
use Rattle.cal3d_mesh_vertices.proofs.judge_vertex.Goals as goal

pub judge_influences-requires : goal.judge_influences-requires
judge_influences-requires c = search (vertex, rules)

pub pass_cloth-requires : goal.pass_cloth-requires
pass_cloth-requires c = search (vertex, rules)

pub returns-in_err-number : goal.returns-in_err-number
returns-in_err-number c = let h = c.in_err-number.was in let p = err_from_is_err_and c.from_residual.result c.from_residual.ensures.1 in rw (p.1, p.2) (search (vertex, rules))

pub returns-in_err-count : goal.returns-in_err-count
returns-in_err-count c = let h₁ = c.in_ok-number.was in let h₂ = c.in_err-count.was in let p = err_from_is_err_and c.from_residual-in_err-count.result c.from_residual-in_err-count.ensures.1 in rw (p.1, p.2) (search (vertex, rules))

pub returns-in_err-next : goal.returns-in_err-next
returns-in_err-next c = let h₁ = c.in_ok-number.was in let h₂ = c.in_ok-count.was in let h₃ = c.in_err-next.was in let p = err_from_is_err_and c.from_residual-in_err-next.result c.from_residual-in_err-next.ensures.1 in rw (p.1, p.2) (search (vertex, rules))

pub returns : goal.returns
returns c = let h₁ = c.in_ok-number.was in let h₂ = c.in_ok-count.was in let h₃ = c.in_ok-next.was in search (vertex, rules)
