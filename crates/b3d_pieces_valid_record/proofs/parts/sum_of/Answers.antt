-- `sum_of` holds just where the statement does.
use Rattle.b3d_pieces_valid_record.proofs.PartTestLaws.{sum_is}
use borrow.Author.Rules.{rules}
use Rattle.b3d_pieces_valid_record.proofs.parts.sum_of.Goals as goal

pub returns : goal.returns
returns c = search (sum_is, rules)
