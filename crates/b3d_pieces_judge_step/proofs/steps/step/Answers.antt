-- `step` takes the machine's turn, whatever the row.
use Rattle.b3d_pieces_judge_step.proofs.StepLaws.{step_laws}
use borrow.Author.Rules.{rules}
use Rattle.b3d_pieces_judge_step.proofs.steps.step.Goals as goal

pub next_at-at-requires : goal.next_at-at-requires
next_at-at-requires c = search (step_laws, rules)

pub returns : goal.returns
returns c = search (step_laws, rules)
