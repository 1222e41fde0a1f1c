-- `judge_bones` answers so many times `read_bone`. The loop has passed whole bones.
use Rattle.std.proofs.lemmas.Result.{err_from_is_err_and}
use native.Mathlib.Omega.{arith}
use borrow.Author.Rules.{rules}
use Rattle.shared_counted_lists.proofs.SumLaws.{sums, sums_room}
use Rattle.cal3d_skeleton_bones.proofs.WalkLaws.{none_in, bone_adds}
use Rattle.cal3d_skeleton_bones.proofs.judge_bones.Goals as goal

pub loop-init : goal.loop-init
loop-init c = search (sums, rules)

-- children take bytes, so that their number fits
pub overflow_add-children : goal.overflow_add-children
overflow_add-children c = let w = c.loop.invariant in
    let h = c.in_ok-n.was in
    let room = sums_room _ _ _ _ _ _ _ _ _ w c.loop-test.true _ (bone_adds _) _ c.judge_bone.ensures _ _ h in
    let i = w.walk.inside in
    omega arith

pub loop-preserved : goal.loop-preserved
loop-preserved c = let h = c.in_ok-n.was in search (sums, bone_adds, rules)

pub returns : goal.returns
returns c = search (sums, none_in, rules)

pub returns-in_err-n : goal.returns-in_err-n
returns-in_err-n c = let h = c.in_err-n.was in let p = err_from_is_err_and c.from_residual.result c.from_residual.ensures.1 in rw (p.1, p.2) (search (sums, bone_adds, rules))
