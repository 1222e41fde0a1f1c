-- `required_missing` says what the nesting rule says after the record's turn.
use Rattle.b3d_pieces_item_steps.proofs.NestLaws.{nest_laws}
use borrow.Author.Rules.{rules}
use Rattle.b3d_pieces_item_steps.proofs.nesting.required_missing.Goals as goal

pub returns : goal.returns
returns c = search (nest_laws, rules)
