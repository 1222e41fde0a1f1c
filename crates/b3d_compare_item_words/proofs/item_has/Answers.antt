-- `item_has` by its ways.
use Rattle.b3d_compare_item_words.proofs.ColumnLaws.{has_laws}
use borrow.Author.Rules.{rules}
use Rattle.b3d_compare_item_words.proofs.item_has.Goals as goal

pub returns-then-k-eq5 : goal.returns-then-k-eq5
returns-then-k-eq5 c = search (has_laws, rules)

pub returns-then-k-eq10 : goal.returns-then-k-eq10
returns-then-k-eq10 c = search (has_laws, rules)

pub returns : goal.returns
returns c = search (has_laws, rules)
