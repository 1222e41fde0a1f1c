-- `weigh_first` does what its promise says.
use borrow.Author.Rules.{rules}
use Rattle.b3d_pieces_records_tests.proofs.WeightLaws.{first_laws}
use Rattle.b3d_pieces_records_tests.proofs.weigh_first.Goals as goal

pub returns-then-records-lt-RECORDS : goal.returns-then-records-lt-RECORDS
returns-then-records-lt-RECORDS c = search (first_laws, rules)

pub returns-then-depth-gt-MOST_AROUND : goal.returns-then-depth-gt-MOST_AROUND
returns-then-depth-gt-MOST_AROUND c = search (first_laws, rules)

pub returns : goal.returns
returns c = search (first_laws, rules)
