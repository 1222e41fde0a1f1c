-- `lax_bone` answers what `lax_bone` reads.
use Rattle.std.proofs.lemmas.Result.{err_from_is_err_and}
use Rattle.b3d_judge_bodies.proofs.AnswerLaws.{counted-few}
use Rattle.b3d_mend_judge_items.proofs.KeptLaws.{bone_laws}
use borrow.Author.Rules.{rules}
use Rattle.b3d_mend_judge_items.proofs.lax_bone.Goals as goal

pub kept_items-requires : goal.kept_items-requires
kept_items-requires c = search (bone_laws, counted-few, rules)

pub enum_known-count : goal.enum_known-count
enum_known-count c = search (bone_laws, counted-few, rules)

pub weights-requires : goal.weights-requires
weights-requires c = search (bone_laws, counted-few, rules)

pub returns-in_err-count : goal.returns-in_err-count
returns-in_err-count c = let h = c.in_err-count.was in let p = err_from_is_err_and c.from_residual.result c.from_residual.ensures.1 in rw (p.1, p.2) (search (bone_laws, counted-few, rules))

pub returns : goal.returns
returns c = let h = c.in_ok-count.was in search (bone_laws, counted-few, rules)
