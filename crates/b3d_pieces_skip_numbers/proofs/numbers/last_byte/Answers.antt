-- `last_byte` takes the last byte of a number, or stays.
use borrow.Author.Rules.{rules}
use Rattle.b3d_pieces_skip_numbers.proofs.NumberLaws.{last_laws}
use Rattle.b3d_pieces_skip_numbers.proofs.numbers.last_byte.Goals as goal

pub returns-then-x-ne3 : goal.returns-then-x-ne3
returns-then-x-ne3 c = search (last_laws, rules)

pub returns-then-last-from : goal.returns-then-last-from
returns-then-last-from c = search (last_laws, rules)

pub returns : goal.returns
returns c = search (last_laws, rules)
