-- `vertex_fault` says what the rules say of the number.
use Rattle.b3d_pieces_rules.proofs.FaultLaws.{vertex_laws}
use borrow.Author.Rules.{rules}
use Rattle.b3d_pieces_rules.proofs.faults.vertex_fault.Goals as goal

pub returns-then-i-before : goal.returns-then-i-before
returns-then-i-before c = search (vertex_laws, rules)

pub returns-then-i-before-2 : goal.returns-then-i-before-2
returns-then-i-before-2 c = search (vertex_laws, rules)

pub returns : goal.returns
returns c = search (vertex_laws, rules)
