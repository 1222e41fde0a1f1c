-- `again` says of which rows others follow at once.
use borrow.Author.Rules.{rules}
use Rattle.b3d_pieces_skip_rows.proofs.JudgedLaws.{again_laws}
use Rattle.b3d_pieces_skip_rows.proofs.judging.again.Goals as goal

pub returns-then-fixed : goal.returns-then-fixed
returns-then-fixed c = search (again_laws, rules)

pub returns-in-VRTS : goal.returns-in-VRTS
returns-in-VRTS c = search (again_laws, rules)

pub returns-in-TRIS : goal.returns-in-TRIS
returns-in-TRIS c = search (again_laws, rules)

pub returns-in-BONE : goal.returns-in-BONE
returns-in-BONE c = search (again_laws, rules)

pub returns-in-KEYS : goal.returns-in-KEYS
returns-in-KEYS c = search (again_laws, rules)

pub returns-in_default : goal.returns-in_default
returns-in_default c = search (again_laws, rules)
