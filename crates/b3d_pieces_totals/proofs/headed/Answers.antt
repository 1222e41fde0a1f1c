-- `headed` changes the totals as the definition does.
use Rattle.b3d_pieces_totals.proofs.TotalLaws.{headed_laws}
use borrow.Author.Rules.{rules}
use Rattle.b3d_pieces_totals.proofs.headed.Goals as goal

pub returns-then-same : goal.returns-then-same
returns-then-same c = search (headed_laws, rules)

pub returns : goal.returns
returns c = search (headed_laws, rules)
