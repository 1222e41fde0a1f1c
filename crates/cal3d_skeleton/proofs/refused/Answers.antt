-- `refused` answers a refusal.
use borrow.Author.Rules.{rules}
use Rattle.cal3d_spec.specs.Answers.{skeleton_answer}
use Rattle.cal3d_skeleton.proofs.refused.Goals as goal

pub returns : goal.returns
unfolding skeleton_answer
returns c = search rules
