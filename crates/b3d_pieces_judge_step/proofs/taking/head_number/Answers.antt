-- `head_number` adds a byte to its number.
use Rattle.b3d_pieces_judge_step.proofs.TakeLaws.{number_laws}
use borrow.Author.Rules.{rules}
use Rattle.b3d_pieces_judge_step.proofs.taking.head_number.Goals as goal

pub gathered-requires : goal.gathered-requires
gathered-requires c = search (number_laws, rules)

pub returns-then-size-lt4 : goal.returns-then-size-lt4
returns-then-size-lt4 c = search (number_laws, rules)

pub gathered-requires-2 : goal.gathered-requires-2
gathered-requires-2 c = search (number_laws, rules)

pub returns : goal.returns
returns c = search (number_laws, rules)
