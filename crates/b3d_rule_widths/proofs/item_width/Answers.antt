-- `item_width` takes the width of a key, or 3.
use Rattle.b3d_rule_widths.proofs.WidthLaws.{width_laws}
use borrow.Author.Rules.{rules}
use Rattle.b3d_rule_widths.proofs.item_width.Goals as goal

pub returns-then-keys : goal.returns-then-keys
returns-then-keys c = search (width_laws, rules)

pub returns : goal.returns
returns c = search (width_laws, rules)
