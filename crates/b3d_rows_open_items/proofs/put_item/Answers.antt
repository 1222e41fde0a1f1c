-- `put_item` goes by the table.
use Rattle.b3d_rows_open_items.proofs.OpeningLaws.{item_laws}
use borrow.Author.Rules.{rules}
use Rattle.b3d_rows_open_items.proofs.put_item.Goals as goal

pub fill_vertices-requires : goal.fill_vertices-requires
fill_vertices-requires c = search (item_laws, rules)

pub shape_of-row-then-k-eq5 : goal.shape_of-row-then-k-eq5
shape_of-row-then-k-eq5 c = search (item_laws, rules)

pub returns-then-k-eq5 : goal.returns-then-k-eq5
returns-then-k-eq5 c = search (item_laws, rules)

pub fill_keys-requires : goal.fill_keys-requires
fill_keys-requires c = search (item_laws, rules)

pub shape_of-row-then-k-eq10 : goal.shape_of-row-then-k-eq10
shape_of-row-then-k-eq10 c = search (item_laws, rules)

pub returns-then-k-eq10 : goal.returns-then-k-eq10
returns-then-k-eq10 c = search (item_laws, rules)

pub copy_words-requires : goal.copy_words-requires
copy_words-requires c = search (item_laws, rules)

pub shape_of-row : goal.shape_of-row
shape_of-row c = search (item_laws, rules)

pub returns : goal.returns
returns c = search (item_laws, rules)
