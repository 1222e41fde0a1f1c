-- `part_valid` holds just where the statement does.
use Rattle.b3d_pieces_valid_record.proofs.PartTestLaws.{mode_laws}
use borrow.Author.Rules.{rules}
use Rattle.b3d_pieces_valid_record.proofs.parts.part_valid.Goals as goal

pub returns-in-Text : goal.returns-in-Text
returns-in-Text c = search (mode_laws, rules)

pub returns-in-Row : goal.returns-in-Row
returns-in-Row c = search (mode_laws, rules)

pub returns-in-Skip : goal.returns-in-Skip
returns-in-Skip c = search (mode_laws, rules)
