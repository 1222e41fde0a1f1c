-- `find_item` goes from chunk to chunk until an item is there. Its measure is what is left to be looked at.
use Rattle.b3d_rows_items.proofs.NextItemLaws.{find_laws}
use borrow.Author.Rules.{rules}
use Rattle.b3d_rows_items.proofs.find_item.Goals as goal

pub returns-in_err-x : goal.returns-in_err-x
returns-in_err-x c = let h = c.in_err-x.was in rw c.from_residual.ensures (search (find_laws, rules))

pub loop-x-preserved : goal.loop-x-preserved
loop-x-preserved c = let h = c.in_ok-x.was in search (find_laws, rules)
