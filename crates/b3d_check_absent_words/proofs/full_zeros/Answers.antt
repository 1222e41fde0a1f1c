-- `full_zeros` looks at so many words, by their number.
use Rattle.b3d_check_absent_words.proofs.CleanRowLaws.{few_laws}
use borrow.Author.Rules.{rules}
use Rattle.b3d_check_absent_words.proofs.full_zeros.Goals as goal

pub zeros-requires : goal.zeros-requires
zeros-requires c = search (few_laws, rules)

pub returns-then-n-eq0 : goal.returns-then-n-eq0
returns-then-n-eq0 c = search (few_laws, rules)

pub zeros-requires-then-n : goal.zeros-requires-then-n
zeros-requires-then-n c = search (few_laws, rules)

pub returns-then-n : goal.returns-then-n
returns-then-n c = search (few_laws, rules)

pub zeros-requires-2 : goal.zeros-requires-2
zeros-requires-2 c = search (few_laws, rules)

pub returns : goal.returns
returns c = search (few_laws, rules)
