-- `row_fault` says what the rules say of the number.
use Rattle.b3d_pieces_rules.proofs.FaultLaws.{fault_laws}
use borrow.Author.Rules.{rules}
use Rattle.b3d_pieces_rules.proofs.faults.row_fault.Goals as goal

pub returns-then-fixed : goal.returns-then-fixed
returns-then-fixed c = search (fault_laws, rules)

pub returns : goal.returns
returns c = search (fault_laws, rules)
