-- `number` takes the next number, or stays.
use borrow.Author.Rules.{rules}
use Rattle.b3d_pieces_skip_numbers.proofs.NumberLaws.{number_laws}
use Rattle.b3d_pieces_skip_numbers.proofs.numbers.number.Goals as goal

pub returns-then-x-ne0 : goal.returns-then-x-ne0
returns-then-x-ne0 c = search (number_laws, rules)

pub returns : goal.returns
returns c = search (number_laws, rules)
