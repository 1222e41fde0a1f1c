-- `vertices_fault` says what the rules say of the number.
use Rattle.b3d_pieces_rules.proofs.FaultLaws.{row_laws}
use borrow.Author.Rules.{rules}
use Rattle.b3d_pieces_rules.proofs.faults.vertices_fault.Goals as goal

pub returns-then-i-eq0 : goal.returns-then-i-eq0
returns-then-i-eq0 c = search (row_laws, rules)

pub returns-then-i-eq1 : goal.returns-then-i-eq1
returns-then-i-eq1 c = search (row_laws, rules)

pub returns-then-i-eq2 : goal.returns-then-i-eq2
returns-then-i-eq2 c = search (row_laws, rules)

pub returns : goal.returns
returns c = search (row_laws, rules)
