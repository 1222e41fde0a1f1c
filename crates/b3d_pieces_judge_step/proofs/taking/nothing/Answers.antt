-- `nothing` takes the machine's turn, whatever the row.
use Rattle.b3d_pieces_judge_step.proofs.TakeLaws.{nothing_is}
use borrow.Author.Rules.{rules}
use Rattle.b3d_pieces_judge_step.proofs.taking.nothing.Goals as goal

pub returns : goal.returns
returns c = search (nothing_is, rules)
