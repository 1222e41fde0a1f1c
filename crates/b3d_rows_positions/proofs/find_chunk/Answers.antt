-- `find_chunk` passes chunks until it meets one of the tag. Its measure is what is left.
use Rattle.b3d_rows_positions.proofs.FindChunkLaws.{find-chunk_laws}
use borrow.Author.Rules.{rules}
use Rattle.b3d_rows_positions.proofs.find_chunk.Goals as goal

pub returns-in_err-chunk : goal.returns-in_err-chunk
returns-in_err-chunk c = let h = c.in_err-chunk.was in rw c.from_residual.ensures (search (find-chunk_laws, rules))

pub returns-then-same : goal.returns-then-same
returns-then-same c = let h = c.in_ok-chunk.was in search (find-chunk_laws, rules)

pub loop-chunk-preserved-then-same-2 : goal.loop-chunk-preserved-then-same-2
loop-chunk-preserved-then-same-2 c = let h = c.in_ok-chunk.was in search (find-chunk_laws, rules)

pub loop-chunk-preserved : goal.loop-chunk-preserved
loop-chunk-preserved c = let h = c.in_ok-chunk.was in search (find-chunk_laws, rules)
