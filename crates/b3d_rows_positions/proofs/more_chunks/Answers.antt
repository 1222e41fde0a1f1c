-- `more_chunks` meets the next chunk of items.
use Rattle.b3d_rows_positions.proofs.PositionLaws.{chunks_laws}
use borrow.Author.Rules.{rules}
use Rattle.b3d_rows_positions.proofs.more_chunks.Goals as goal

pub returns-in_err-chunk : goal.returns-in_err-chunk
returns-in_err-chunk c = let h = c.in_err-chunk.was in rw c.from_residual.ensures (search (chunks_laws, rules))

pub returns : goal.returns
returns c = let h = c.in_ok-chunk.was in search (chunks_laws, rules)
