-- `judge_vertices` answers so many times `read_vertex`. The loop has passed whole vertices.
use Rattle.std.proofs.lemmas.Result.{err_from_is_err_and}
use native.Mathlib.Omega.{arith}
use borrow.Author.Rules.{rules}
use Rattle.shared_counted_lists.proofs.SumLaws.{sums, sums_room}
use Rattle.cal3d_mesh_vertices.proofs.VertexLaws.{no-influences, vertex_adds}
use Rattle.cal3d_mesh_vertices.proofs.judge_vertices.Goals as goal

pub loop-init : goal.loop-init
loop-init c = search (sums, rules)

-- influences take bytes, so that their number fits
pub overflow_add-influences : goal.overflow_add-influences
overflow_add-influences c = let w = c.loop.invariant in
    let h = c.in_ok-count.was in
    let room = sums_room _ _ _ _ _ _ _ _ _ w c.loop-test.true _ (vertex_adds _ _ _ _) _ c.judge_vertex.ensures _ _ h in
    let i = w.walk.inside in
    omega arith

pub loop-preserved : goal.loop-preserved
loop-preserved c = let h = c.in_ok-count.was in search (sums, vertex_adds, rules)

pub returns : goal.returns
returns c = search (sums, no-influences, rules)

pub returns-in_err-count : goal.returns-in_err-count
returns-in_err-count c = let h = c.in_err-count.was in let p = err_from_is_err_and c.from_residual.result c.from_residual.ensures.1 in rw (p.1, p.2) (search (sums, vertex_adds, rules))
