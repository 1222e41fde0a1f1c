-- `most` gives the limit of a number.
use borrow.Author.Rules.{rules}
use Rattle.slip.proofs.SlipWriteLaws.{limit_laws}
use Rattle.slip.proofs.most.Goals as goal

pub returns-then-i-eq0 : goal.returns-then-i-eq0
returns-then-i-eq0 c = search (limit_laws, rules)

pub returns-then-i-eq1 : goal.returns-then-i-eq1
returns-then-i-eq1 c = search (limit_laws, rules)

pub returns : goal.returns
returns c = search (limit_laws, rules)
