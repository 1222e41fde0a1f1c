-- `bone_vertices` says what the rules say of the number.
use borrow.Author.Rules.{rules}
use Rattle.b3d_pieces_rules.proofs.FaultLaws.{bones_laws}
use Rattle.b3d_pieces_rules.proofs.faults.bone_vertices.Goals as goal

pub returns-then-rows-eq1 : goal.returns-then-rows-eq1
returns-then-rows-eq1 c = search (bones_laws, rules)

pub returns : goal.returns
returns c = search (bones_laws, rules)
