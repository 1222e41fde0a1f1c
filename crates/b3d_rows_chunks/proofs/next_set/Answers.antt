-- `next_set` stores the row of the next TRIS.
use Rattle.b3d_rows_chunks.proofs.NextSetLaws.{set_laws}
use borrow.Author.Rules.{rules}
use Rattle.b3d_rows_chunks.proofs.next_set.Goals as goal

pub returns : goal.returns
returns c = let h = c.in_ok-set.was in search (set_laws, rules)
