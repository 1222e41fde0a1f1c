-- `keeps` says that a number keeps its rule only if it does.
use borrow.Author.Rules.{rules}
use Rattle.b3d_pieces_skip_numbers.proofs.NumberLaws.{keeps_laws}
use Rattle.b3d_pieces_skip_numbers.proofs.numbers.keeps.Goals as goal

pub returns-then-i-q : goal.returns-then-i-q
returns-then-i-q c = search (keeps_laws, rules)

pub returns-then-q-i : goal.returns-then-q-i
returns-then-q-i c = search (keeps_laws, rules)

pub returns-then-q : goal.returns-then-q
returns-then-q c = search (keeps_laws, rules)

pub returns : goal.returns
returns c = search (keeps_laws, rules)
