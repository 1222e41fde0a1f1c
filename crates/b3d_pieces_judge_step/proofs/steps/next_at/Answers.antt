-- `next_at` goes on by a byte, or waits.
use Rattle.b3d_pieces_judge_step.proofs.StepLaws.{next_laws}
use borrow.Author.Rules.{rules}
use Rattle.b3d_pieces_judge_step.proofs.steps.next_at.Goals as goal

pub returns-then-pending : goal.returns-then-pending
returns-then-pending c = search (next_laws, rules)

pub returns : goal.returns
returns c = search (next_laws, rules)
