-- `numbers` by its ways.
use borrow.Author.Rules.{rules}
use Rattle.b3d_compare_difference.proofs.ValueLaws.{number_laws}
use Rattle.b3d_compare_difference.proofs.numbers.Goals as goal

pub returns-then-not-float : goal.returns-then-not-float
returns-then-not-float c = search (number_laws, rules)

pub returns-then-m-gt2139095040 : goal.returns-then-m-gt2139095040
returns-then-m-gt2139095040 c = search (number_laws, rules)

pub returns-then-n-gt2139095040 : goal.returns-then-n-gt2139095040
returns-then-n-gt2139095040 c = search (number_laws, rules)

pub float_from_bits-first : goal.float_from_bits-first
float_from_bits-first c = search (number_laws, rules)

pub float_from_bits-second : goal.float_from_bits-second
float_from_bits-second c = search (number_laws, rules)

pub returns : goal.returns
returns c = search (number_laws, rules)
