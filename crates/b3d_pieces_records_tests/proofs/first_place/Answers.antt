-- `first_place` does what its promise says.
use borrow.Author.Rules.{rules}
use Rattle.b3d_pieces_records_tests.proofs.WeightLaws.{place_laws}
use Rattle.b3d_pieces_records_tests.proofs.first_place.Goals as goal

pub returns-then-number-eq-TOO_SHORT : goal.returns-then-number-eq-TOO_SHORT
returns-then-number-eq-TOO_SHORT c = search (place_laws, rules)

pub returns : goal.returns
returns c = search (place_laws, rules)
