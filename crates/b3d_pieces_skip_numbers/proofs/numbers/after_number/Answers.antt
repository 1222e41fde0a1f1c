-- `after_number` comes to the machine's state after the number, or stays.
use borrow.Author.Rules.{rules}
use Rattle.b3d_pieces_skip_numbers.proofs.NumberLaws.{after_laws}
use Rattle.b3d_pieces_skip_numbers.proofs.numbers.after_number.Goals as goal

pub returns-then-i-q : goal.returns-then-i-q
returns-then-i-q c = search (after_laws, rules)

pub returns-then-q-left : goal.returns-then-q-left
returns-then-q-left c = search (after_laws, rules)

pub returns-else-q-left : goal.returns-else-q-left
returns-else-q-left c = search (after_laws, rules)

pub returns-else-q : goal.returns-else-q
returns-else-q c = search (after_laws, rules)

pub returns-else-keeps : goal.returns-else-keeps
returns-else-keeps c = search (after_laws, rules)
