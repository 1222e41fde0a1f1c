-- `next_mesh` meets the next MESH.
use Rattle.b3d_rows_chunks.proofs.NextChunkLaws.{mesh_laws}
use borrow.Author.Rules.{rules}
use Rattle.b3d_rows_chunks.proofs.next_mesh.Goals as goal

pub returns-in_err-chunk : goal.returns-in_err-chunk
returns-in_err-chunk c = let h = c.in_err-chunk.was in rw c.from_residual.ensures (search (mesh_laws, rules))

pub returns : goal.returns
returns c = let h = c.in_ok-chunk.was in search (mesh_laws, rules)
