-- `first_over` looks at one number a turn: the first from i on is the first of all.
use borrow.Author.Rules.{rules}
use Rattle.slip.proofs.SlipWriteLaws.{looking_laws}
use Rattle.slip.proofs.first_over.Goals as goal

pub loop-i-init : goal.loop-i-init
loop-i-init c = search (looking_laws, rules)

pub returns-then-most-numbers : goal.returns-then-most-numbers
returns-then-most-numbers c = search (looking_laws, rules)

pub loop-i-preserved : goal.loop-i-preserved
loop-i-preserved c = search (looking_laws, rules)

pub returns : goal.returns
returns c = search (looking_laws, rules)
