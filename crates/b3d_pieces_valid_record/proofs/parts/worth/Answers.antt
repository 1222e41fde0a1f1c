-- `worth` holds just where the statement does.
use Rattle.b3d_pieces_valid_record.proofs.PartTestLaws.{worth_laws}
use borrow.Author.Rules.{rules}
use Rattle.b3d_pieces_valid_record.proofs.parts.worth.Goals as goal

pub returns : goal.returns
returns c = search (worth_laws, rules)
