-- `judged` says which numbers are judged.
use borrow.Author.Rules.{rules}
use Rattle.b3d_pieces_skip_rows.proofs.JudgedLaws.{judged_laws}
use Rattle.b3d_pieces_skip_rows.proofs.judging.judged.Goals as goal

pub returns-then-fixed : goal.returns-then-fixed
returns-then-fixed c = search (judged_laws, rules)

pub returns : goal.returns
returns c = search (judged_laws, rules)
