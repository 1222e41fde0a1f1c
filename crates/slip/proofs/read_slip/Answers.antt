-- `read_slip` reads one number a turn: those from i on are left.
use borrow.Author.Rules.{rules}
use Rattle.slip.proofs.ReadLaws.{read_laws}
use Rattle.slip.proofs.read_slip.Goals as goal

pub loop-i-init : goal.loop-i-init
loop-i-init c = search (read_laws, rules)

pub refused-requires : goal.refused-requires
refused-requires c = search (read_laws, rules)

pub loop-i-preserved : goal.loop-i-preserved
loop-i-preserved c = search (read_laws, rules)

pub refused-requires-then-at-slip : goal.refused-requires-then-at-slip
refused-requires-then-at-slip c = search (read_laws, rules)

pub returns-then-at-slip : goal.returns-then-at-slip
returns-then-at-slip c = search (read_laws, rules)

pub returns : goal.returns
returns c = search (read_laws, rules)

pub returns-in-Err : goal.returns-in-Err
returns-in-Err c = search (read_laws, rules)
