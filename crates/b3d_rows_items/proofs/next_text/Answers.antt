-- `next_text` reads a text with its words.
use Rattle.b3d_rows_items.proofs.NextTextLaws.{text_laws}
use borrow.Author.Rules.{rules}
use Rattle.b3d_rows_items.proofs.next_text.Goals as goal

pub returns-in_err-named : goal.returns-in_err-named
returns-in_err-named c = let h = c.in_err-named.was in rw c.from_residual.ensures (search (text_laws, rules))

pub returns : goal.returns
returns c = let h = c.in_ok-named.was in search (text_laws, rules)
