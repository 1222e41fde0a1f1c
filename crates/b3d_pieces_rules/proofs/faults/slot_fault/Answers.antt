-- `slot_fault` says what the rules say of the number.
use Rattle.b3d_pieces_rules.proofs.FaultLaws.{row_laws}
use borrow.Author.Rules.{rules}
use Rattle.b3d_pieces_rules.proofs.faults.slot_fault.Goals as goal

pub returns-then-i-lt4 : goal.returns-then-i-lt4
returns-then-i-lt4 c = search (row_laws, rules)

pub returns-then-i-lt7 : goal.returns-then-i-lt7
returns-then-i-lt7 c = search (row_laws, rules)

pub returns-then-i-slots : goal.returns-then-i-slots
returns-then-i-slots c = search (row_laws, rules)

pub returns : goal.returns
returns c = search (row_laws, rules)
