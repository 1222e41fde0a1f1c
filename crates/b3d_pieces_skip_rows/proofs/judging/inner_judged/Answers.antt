-- `inner_judged` says which numbers are judged.
use borrow.Author.Rules.{rules}
use Rattle.b3d_pieces_skip_rows.proofs.JudgedLaws.{inner_laws}
use Rattle.b3d_pieces_skip_rows.proofs.judging.inner_judged.Goals as goal

pub returns-in-BRUS : goal.returns-in-BRUS
returns-in-BRUS c = search (inner_laws, rules)

pub returns-in-VRTS : goal.returns-in-VRTS
returns-in-VRTS c = search (inner_laws, rules)

pub returns-in-TRIS : goal.returns-in-TRIS
returns-in-TRIS c = search (inner_laws, rules)

pub returns-in-BONE : goal.returns-in-BONE
returns-in-BONE c = search (inner_laws, rules)

pub returns-in_default : goal.returns-in_default
returns-in_default c = search (inner_laws, rules)
