-- `has_item` by its ways.
use Rattle.b3d_compare_shapes.proofs.ShapeLaws.{item_laws}
use borrow.Author.Rules.{rules}
use Rattle.b3d_compare_shapes.proofs.has_item.Goals as goal

pub returns-then-i : goal.returns-then-i
returns-then-i c = search (item_laws, rules)

pub returns : goal.returns
returns c = search (item_laws, rules)
