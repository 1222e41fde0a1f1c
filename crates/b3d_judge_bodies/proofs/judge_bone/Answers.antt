-- `judge_bone` answers what `read_bone` reads.
use Rattle.std.proofs.lemmas.Result.{err_from_is_err_and}
use borrow.Author.Rules.{rules}
use Rattle.b3d_judge_bodies.proofs.IdLaws.{bone_laws}
use Rattle.b3d_judge_bodies.proofs.AnswerLaws.{counted-few}
use Rattle.b3d_judge_bodies.proofs.judge_bone.Goals as goal

pub weights-requires : goal.weights-requires
weights-requires c = search (counted-few, rules)

pub returns-in_err-count : goal.returns-in_err-count
returns-in_err-count c = let h = c.in_err-count.was in let p = err_from_is_err_and c.from_residual.result c.from_residual.ensures.1 in rw (p.1, p.2) (search (bone_laws, rules))

pub returns : goal.returns
returns c = let h = c.in_ok-count.was in search (bone_laws, rules)
