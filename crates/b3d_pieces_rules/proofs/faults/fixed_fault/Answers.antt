-- `fixed_fault` says what the rules say of the number.
use Rattle.b3d_pieces_rules.proofs.FaultLaws.{fixed_laws}
use borrow.Author.Rules.{rules}
use Rattle.b3d_pieces_rules.proofs.faults.fixed_fault.Goals as goal

pub returns-in-BB3D : goal.returns-in-BB3D
returns-in-BB3D c = search (fixed_laws, rules)

pub returns-in-BRUS : goal.returns-in-BRUS
returns-in-BRUS c = search (fixed_laws, rules)

pub returns-in-MESH : goal.returns-in-MESH
returns-in-MESH c = search (fixed_laws, rules)

pub returns-in-VRTS : goal.returns-in-VRTS
returns-in-VRTS c = search (fixed_laws, rules)

pub returns-in-TRIS : goal.returns-in-TRIS
returns-in-TRIS c = search (fixed_laws, rules)

pub returns-in-KEYS : goal.returns-in-KEYS
returns-in-KEYS c = search (fixed_laws, rules)

pub returns-in_default : goal.returns-in_default
returns-in_default c = search (fixed_laws, rules)
