-- `says` changes the totals as the definition does.
use Rattle.b3d_pieces_totals.proofs.TotalLaws.{says_is}
use borrow.Author.Rules.{rules}
use Rattle.b3d_pieces_totals.proofs.says.Goals as goal

pub returns : goal.returns
returns c = search (says_is, rules)
