-- `judge_submeshes` answers so many times `read_submesh`. The loop has passed whole submeshes, each of 24 bytes or more, so that the bytes bound its turns.
use Rattle.std.proofs.lemmas.Result.{err_from_is_err_and}
use native.Mathlib.Omega.{arith}
use borrow.Author.Rules.{rules}
use Rattle.cal3d_mesh_submeshes.proofs.TotalLaws.{totals, total_room}
use Rattle.cal3d_mesh_submeshes.proofs.judge_submeshes.Goals as goal

pub loop-init : goal.loop-init
loop-init c = search (totals, rules)

-- entries take bytes, so that their numbers fit
pub plus-all-requires : goal.plus-all-requires
plus-all-requires c = let w = c.loop.invariant in
    let h = c.in_ok-one.was in
    let room = total_room _ _ _ _ _ _ _ w c.loop-test.true _ c.judge_submesh.ensures _ _ h in
    room (omega arith)

pub loop-preserved : goal.loop-preserved
loop-preserved c = let h = c.in_ok-one.was in search (totals, rules)

pub returns : goal.returns
returns c = search (totals, rules)

pub returns-in_err-one : goal.returns-in_err-one
returns-in_err-one c = let h = c.in_err-one.was in let p = err_from_is_err_and c.from_residual.result c.from_residual.ensures.1 in rw (p.1, p.2) (search (totals, rules))
