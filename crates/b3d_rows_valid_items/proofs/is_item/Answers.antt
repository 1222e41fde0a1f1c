-- `is_item` tests number by number.
use Rattle.b3d_rows_valid_items.proofs.ItemTestLaws.{item_laws}
use borrow.Author.Rules.{rules}
use Rattle.b3d_rows_valid_items.proofs.is_item.Goals as goal

pub returns-then-not-is_mesh : goal.returns-then-not-is_mesh
returns-then-not-is_mesh c = search (item_laws, rules)

pub returns-then-not-is_measured : goal.returns-then-not-is_measured
returns-then-not-is_measured c = search (item_laws, rules)

pub returns : goal.returns
returns c = search (item_laws, rules)
