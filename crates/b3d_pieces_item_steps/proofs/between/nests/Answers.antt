-- `nests` is the definition's test.
use Rattle.b3d_pieces_item_steps.proofs.EdgeLaws.{nests_are}
use borrow.Author.Rules.{rules}
use Rattle.b3d_pieces_item_steps.proofs.between.nests.Goals as goal

pub returns : goal.returns
returns c = search (nests_are, rules)
