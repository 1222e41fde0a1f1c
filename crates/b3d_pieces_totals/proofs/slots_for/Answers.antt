-- `slots_for` changes the totals as the definition does.
use Rattle.b3d_pieces_totals.proofs.TotalLaws.{slots-none, slots-some}
use borrow.Author.Rules.{rules}
use Rattle.b3d_pieces_totals.proofs.slots_for.Goals as goal

pub returns : goal.returns
returns c = search (slots-none, slots-some, rules)
