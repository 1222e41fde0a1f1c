-- `find_node` passes chunks until it meets a NODE. Its measure is what is left.
use Rattle.b3d_rows_nodes.proofs.FindNodeLaws.{find_laws}
use borrow.Author.Rules.{rules}
use Rattle.b3d_rows_nodes.proofs.find_node.Goals as goal

pub returns-in_err-chunk : goal.returns-in_err-chunk
returns-in_err-chunk c = let h = c.in_err-chunk.was in rw c.from_residual.ensures (search (find_laws, rules))

pub returns-then-same : goal.returns-then-same
returns-then-same c = let h = c.in_ok-chunk.was in search (find_laws, rules)

pub loop-chunk-preserved-then-same-2 : goal.loop-chunk-preserved-then-same-2
loop-chunk-preserved-then-same-2 c = let h = c.in_ok-chunk.was in search (find_laws, rules)

pub loop-chunk-preserved-then-same-3 : goal.loop-chunk-preserved-then-same-3
loop-chunk-preserved-then-same-3 c = let h = c.in_ok-chunk.was in search (find_laws, rules)

pub loop-chunk-preserved : goal.loop-chunk-preserved
loop-chunk-preserved c = let h = c.in_ok-chunk.was in search (find_laws, rules)
