-- `first_number` does what its promise says.
use borrow.Author.Rules.{rules}
use Rattle.b3d_pieces_records_tests.proofs.WeightLaws.{number_laws}
use Rattle.b3d_pieces_records_tests.proofs.first_number.Goals as goal

pub returns-then-w-lt-RECORDS : goal.returns-then-w-lt-RECORDS
returns-then-w-lt-RECORDS c = search (number_laws, rules)

pub returns-then-j : goal.returns-then-j
returns-then-j c = search (number_laws, rules)

pub returns-then-j-gt-MOST_AROUND : goal.returns-then-j-gt-MOST_AROUND
returns-then-j-gt-MOST_AROUND c = search (number_laws, rules)

pub returns-then-state_valid : goal.returns-then-state_valid
returns-then-state_valid c = search (number_laws, rules)

pub returns : goal.returns
returns c = search (number_laws, rules)
