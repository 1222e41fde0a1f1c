-- `is_items` by its ways.
use Rattle.b3d_compare_shapes.proofs.ShapeLaws.{items_laws}
use borrow.Author.Rules.{rules}
use Rattle.b3d_compare_shapes.proofs.is_items.Goals as goal

pub returns-then-k-eq5 : goal.returns-then-k-eq5
returns-then-k-eq5 c = search (items_laws, rules)

pub returns-then-k-eq7 : goal.returns-then-k-eq7
returns-then-k-eq7 c = search (items_laws, rules)

pub returns-then-k-eq8 : goal.returns-then-k-eq8
returns-then-k-eq8 c = search (items_laws, rules)

pub returns : goal.returns
returns c = search (items_laws, rules)
