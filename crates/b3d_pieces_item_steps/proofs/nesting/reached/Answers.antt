-- `reached` says what the nesting rule says after the record's turn.
use Rattle.b3d_pieces_item_steps.proofs.NestLaws.{nest_laws}
use borrow.Author.Rules.{rules}
use Rattle.b3d_pieces_item_steps.proofs.nesting.reached.Goals as goal

pub returns-then-turn-lt4 : goal.returns-then-turn-lt4
returns-then-turn-lt4 c = search (nest_laws, rules)

pub returns : goal.returns
returns c = search (nest_laws, rules)
