-- `next_list` meets the next KEYS.
use Rattle.b3d_rows_chunks.proofs.NextChunkLaws.{list_laws}
use borrow.Author.Rules.{rules}
use Rattle.b3d_rows_chunks.proofs.next_list.Goals as goal

pub returns-in_err-chunk : goal.returns-in_err-chunk
returns-in_err-chunk c = let h = c.in_err-chunk.was in rw c.from_residual.ensures (search (list_laws, rules))

pub overflow_add-counts : goal.overflow_add-counts
overflow_add-counts c = let h = c.in_ok-chunk.was in search (list_laws, rules)

pub returns : goal.returns
returns c = let h = c.in_ok-chunk.was in search (list_laws, rules)
