-- `find_set` goes from TRIS to TRIS, then to the next MESH. Its measure is what is left to be looked at.
use Rattle.b3d_rows_chunks.proofs.NextSetLaws.{find_laws}
use borrow.Author.Rules.{rules}
use Rattle.b3d_rows_chunks.proofs.find_set.Goals as goal

pub returns-in-Some : goal.returns-in-Some
returns-in-Some c = search (find_laws, rules)

pub returns-in_err-x : goal.returns-in_err-x
returns-in_err-x c = let h = c.in_err-x.was in rw c.from_residual.ensures (search (find_laws, rules))

pub loop-set-preserved : goal.loop-set-preserved
loop-set-preserved c = let h = c.in_ok-x.was in search (find_laws, rules)
