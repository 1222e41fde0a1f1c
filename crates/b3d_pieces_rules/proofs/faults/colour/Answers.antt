-- `colour` says what the rules say of the number.
use Rattle.b3d_pieces_rules.proofs.FaultLaws.{colour_laws}
use borrow.Author.Rules.{rules}
use Rattle.b3d_pieces_rules.proofs.faults.colour.Goals as goal

pub returns-then-colour_ok : goal.returns-then-colour_ok
returns-then-colour_ok c = search (colour_laws, rules)

pub returns : goal.returns
returns c = search (colour_laws, rules)
