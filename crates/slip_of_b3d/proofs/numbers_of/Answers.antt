-- `numbers_of` puts the twelve numbers in a row.
use borrow.Author.Rules.{rules}
use Rattle.slip_of_b3d.proofs.SlipOfLaws.{numbers_are}
use Rattle.slip_of_b3d.proofs.numbers_of.Goals as goal

pub returns : goal.returns
returns c = search (numbers_are, rules)
