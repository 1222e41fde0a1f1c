-- `close` takes nodes that ended off the end of the path.
use Rattle.b3d_rows_nodes.proofs.NodeStackLaws.{close_laws}
use borrow.Author.Rules.{rules}
use Rattle.b3d_rows_nodes.proofs.close.Goals as goal

pub returns-then-p-ends : goal.returns-then-p-ends
returns-then-p-ends c = search (close_laws, rules)

pub loop-d-preserved : goal.loop-d-preserved
loop-d-preserved c = search (close_laws, rules)

pub returns : goal.returns
returns c = search (close_laws, rules)
