-- `inner_fault` says what the rules say of the number.
use Rattle.b3d_pieces_rules.proofs.FaultLaws.{inner_laws}
use borrow.Author.Rules.{rules}
use Rattle.b3d_pieces_rules.proofs.faults.inner_fault.Goals as goal

pub returns-in-BRUS : goal.returns-in-BRUS
returns-in-BRUS c = search (inner_laws, rules)

pub returns-in-VRTS : goal.returns-in-VRTS
returns-in-VRTS c = search (inner_laws, rules)

pub returns-in-TRIS : goal.returns-in-TRIS
returns-in-TRIS c = search (inner_laws, rules)

pub returns-in-BONE : goal.returns-in-BONE
returns-in-BONE c = search (inner_laws, rules)

pub returns-in_default : goal.returns-in_default
returns-in_default c = search (inner_laws, rules)
