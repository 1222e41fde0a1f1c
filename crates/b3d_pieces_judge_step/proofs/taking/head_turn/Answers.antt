-- `head_turn` takes the machine's turn, whatever the row.
use Rattle.b3d_pieces_judge_step.proofs.TakeLaws.{head_laws}
use borrow.Author.Rules.{rules}
use Rattle.b3d_pieces_judge_step.proofs.taking.head_turn.Goals as goal

pub head_number-v-requires : goal.head_number-v-requires
head_number-v-requires c = search (head_laws, rules)

pub enter-first-requires : goal.enter-first-requires
enter-first-requires c = search (head_laws, rules)

pub returns-then-size-eq7 : goal.returns-then-size-eq7
returns-then-size-eq7 c = search (head_laws, rules)

pub returns-then-size-eq3 : goal.returns-then-size-eq3
returns-then-size-eq3 c = search (head_laws, rules)

pub returns : goal.returns
returns c = search (head_laws, rules)
