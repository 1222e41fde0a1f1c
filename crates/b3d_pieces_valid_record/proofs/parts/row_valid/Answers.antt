-- `row_valid` holds just where the statement does.
use Rattle.b3d_pieces_valid_record.proofs.PartTestLaws.{row_laws}
use borrow.Author.Rules.{rules}
use Rattle.b3d_pieces_valid_record.proofs.parts.row_valid.Goals as goal

pub returns-then-size-at : goal.returns-then-size-at
returns-then-size-at c = search (row_laws, rules)

pub returns-then-size-at-2 : goal.returns-then-size-at-2
returns-then-size-at-2 c = search (row_laws, rules)

pub returns-then-j-gt3 : goal.returns-then-j-gt3
returns-then-j-gt3 c = search (row_laws, rules)

pub returns-then-at-i : goal.returns-then-at-i
returns-then-at-i c = search (row_laws, rules)

pub returns-then-worth-acc : goal.returns-then-worth-acc
returns-then-worth-acc c = search (row_laws, rules)

pub returns : goal.returns
returns c = search (row_laws, rules)
