-- `next_item` stores the row of the first item.
use Rattle.b3d_rows_items.proofs.NextItemLaws.{row_laws}
use borrow.Author.Rules.{rules}
use Rattle.b3d_rows_items.proofs.next_item.Goals as goal

pub returns : goal.returns
returns c = let h = c.in_ok-x.was in search (row_laws, rules)
