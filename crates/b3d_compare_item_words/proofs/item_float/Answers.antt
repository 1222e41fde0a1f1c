-- `item_float` by its ways.
use Rattle.b3d_compare_item_words.proofs.WordEntryLaws.{item_float_laws}
use borrow.Author.Rules.{rules}
use Rattle.b3d_compare_item_words.proofs.item_float.Goals as goal

pub returns-then-k-eq5 : goal.returns-then-k-eq5
returns-then-k-eq5 c = search (item_float_laws, rules)

pub returns-then-k-eq7 : goal.returns-then-k-eq7
returns-then-k-eq7 c = search (item_float_laws, rules)

pub returns : goal.returns
returns c = search (item_float_laws, rules)
