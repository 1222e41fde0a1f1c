-- `judge_bone` answers `read_bone`.
use Rattle.std.proofs.lemmas.Result.{err_from_is_err_and}
use borrow.Author.Rules.{rules}
use Rattle.cal3d_skeleton_bones.proofs.BoneLaws.{bone}
use Rattle.cal3d_skeleton_bones.proofs.judge_bone.Goals as goal

pub judge_links-requires : goal.judge_links-requires
judge_links-requires c = search (bone, rules)

pub returns-in_err-numbers : goal.returns-in_err-numbers
returns-in_err-numbers c = let h = c.in_err-numbers.was in let p = err_from_is_err_and c.from_residual.result c.from_residual.ensures.1 in rw (p.1, p.2) (search (bone, rules))

pub returns : goal.returns
returns c = let h = c.in_ok-numbers.was in search (bone, rules)
