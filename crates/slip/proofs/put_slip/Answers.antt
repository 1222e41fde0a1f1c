-- `put_slip` puts one number a turn: those from i on are left.
use borrow.Author.Rules.{rules}
use Rattle.slip.proofs.SlipWriteLaws.{putting_laws}
use Rattle.slip.proofs.put_slip.Goals as goal

pub loop-i-init : goal.loop-i-init
loop-i-init c = search (putting_laws, rules)

pub put_groups-at-requires : goal.put_groups-at-requires
put_groups-at-requires c = search (putting_laws, rules)

pub loop-i-preserved : goal.loop-i-preserved
loop-i-preserved c = search (putting_laws, rules)

pub shape_of-out : goal.shape_of-out
shape_of-out c = search (putting_laws, rules)

pub returns : goal.returns
returns c = search (putting_laws, rules)
