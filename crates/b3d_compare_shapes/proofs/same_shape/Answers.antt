-- `same_shape` asks one thing after the other.
use Rattle.b3d_compare_shapes.proofs.ShapeLaws.{shape-not, shape_is}
use borrow.Author.Rules.{rules}
use Rattle.b3d_compare_shapes.proofs.same_shape.Goals as goal

pub returns-then-not-is_items : goal.returns-then-not-is_items
returns-then-not-is_items c = search (shape-not, rules)

pub returns-then-i-j : goal.returns-then-i-j
returns-then-i-j c = search (shape-not, rules)

pub returns-then-i-j-2 : goal.returns-then-i-j-2
returns-then-i-j-2 c = search (shape-not, rules)

pub returns-then-i-j-3 : goal.returns-then-i-j-3
returns-then-i-j-3 c = search (shape-not, rules)

pub returns-then-i-j-4 : goal.returns-then-i-j-4
returns-then-i-j-4 c = search (shape-not, rules)

pub returns-then-not-has_item : goal.returns-then-not-has_item
returns-then-not-has_item c = search (shape-not, rules)

pub returns : goal.returns
returns c = search (shape_is, rules)
