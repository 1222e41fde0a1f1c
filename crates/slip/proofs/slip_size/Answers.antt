-- `slip_size` adds up the groups of one number a turn: those from i on are left.
use borrow.Author.Rules.{rules}
use Rattle.slip.proofs.SlipWriteLaws.{adding_laws}
use Rattle.slip.proofs.slip_size.Goals as goal

pub loop-i-init : goal.loop-i-init
loop-i-init c = search (adding_laws, rules)

pub loop-i-preserved : goal.loop-i-preserved
loop-i-preserved c = search (adding_laws, rules)

pub returns : goal.returns
returns c = search (adding_laws, rules)
