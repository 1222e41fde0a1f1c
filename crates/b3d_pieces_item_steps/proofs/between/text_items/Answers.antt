-- `text_items` is the definition's test.
use Rattle.b3d_pieces_item_steps.proofs.EdgeLaws.{text-items_are}
use borrow.Author.Rules.{rules}
use Rattle.b3d_pieces_item_steps.proofs.between.text_items.Goals as goal

pub returns : goal.returns
returns c = search (text-items_are, rules)
