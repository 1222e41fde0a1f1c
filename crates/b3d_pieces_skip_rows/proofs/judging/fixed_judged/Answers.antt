-- `fixed_judged` says which numbers are judged.
use borrow.Author.Rules.{rules}
use Rattle.b3d_pieces_skip_rows.proofs.JudgedLaws.{fixed_laws}
use Rattle.b3d_pieces_skip_rows.proofs.judging.fixed_judged.Goals as goal

pub returns-in-NODE : goal.returns-in-NODE
returns-in-NODE c = search (fixed_laws, rules)

pub returns-in-ANIM : goal.returns-in-ANIM
returns-in-ANIM c = search (fixed_laws, rules)

pub returns-in_default : goal.returns-in_default
returns-in_default c = search (fixed_laws, rules)
