-- `slip_of` judges the file and writes the slip of its numbers.
use borrow.Author.Rules.{rules}
use Rattle.slip_of_b3d.proofs.SlipOfLaws.{slip-of_laws}
use Rattle.slip_of_b3d.proofs.slip_of.Goals as goal

pub returns-then-a-ne0 : goal.returns-then-a-ne0
returns-then-a-ne0 c = search (slip-of_laws, rules)

pub returns : goal.returns
returns c = search (slip-of_laws, rules)
