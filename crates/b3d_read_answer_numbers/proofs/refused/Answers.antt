-- `refused` answers a refusal.
use borrow.Author.Rules.{rules}
use Rattle.b3d_spec.specs.Answers.{answer}
use Rattle.b3d_read_answer_numbers.proofs.refused.Goals as goal

pub returns : goal.returns
unfolding answer
returns c = search rules
