-- `refused` answers a refusal.
use borrow.Author.Rules.{rules}
use Rattle.cal3d_spec.specs.Answers.{mesh_answer}
use Rattle.cal3d_mesh_judge.proofs.refused.Goals as goal

pub returns : goal.returns
unfolding mesh_answer
returns c = search rules
