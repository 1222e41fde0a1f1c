-- `name_or_none` says what the rules say of the number.
use Rattle.b3d_pieces_rules.proofs.FaultLaws.{one_laws}
use borrow.Author.Rules.{rules}
use Rattle.b3d_pieces_rules.proofs.faults.name_or_none.Goals as goal

pub returns-then-w-eq4294967295 : goal.returns-then-w-eq4294967295
returns-then-w-eq4294967295 c = search (one_laws, rules)

pub returns-then-w-n : goal.returns-then-w-n
returns-then-w-n c = search (one_laws, rules)

pub returns : goal.returns
returns c = search (one_laws, rules)
