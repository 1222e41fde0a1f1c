-- `up_to` says what the rules say of the number.
use Rattle.b3d_pieces_rules.proofs.FaultLaws.{one_laws}
use borrow.Author.Rules.{rules}
use Rattle.b3d_pieces_rules.proofs.faults.up_to.Goals as goal

pub returns-then-w-m : goal.returns-then-w-m
returns-then-w-m c = search (one_laws, rules)

pub returns : goal.returns
returns c = search (one_laws, rules)
