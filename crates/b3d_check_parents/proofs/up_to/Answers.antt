-- `up_to` is `up_to` on the path that the arrays hold, whatever its nodes say of bones. The loop has passed the nodes from d on.
use Rattle.b3d_check_parents.proofs.PathLaws.{cut_laws}
use borrow.Author.Rules.{rules}
use Rattle.b3d_check_parents.proofs.up_to.Goals as goal

pub loop-d-init : goal.loop-d-init
loop-d-init c = search (cut_laws, rules)

pub loop-d-preserved : goal.loop-d-preserved
loop-d-preserved c = search (cut_laws, rules)

pub returns-then-path-d : goal.returns-then-path-d
returns-then-path-d c = search (cut_laws, rules)

pub returns-then-ends-d : goal.returns-then-ends-d
returns-then-ends-d c = search (cut_laws, rules)

pub returns : goal.returns
returns c = search (cut_laws, rules)
