-- `few_zeros` looks at so many words, by their number.
use Rattle.b3d_check_absent_words.proofs.CleanRowLaws.{few_laws}
use borrow.Author.Rules.{rules}
use Rattle.b3d_check_absent_words.proofs.few_zeros.Goals as goal

pub zeros-requires : goal.zeros-requires
zeros-requires c = search (few_laws, rules)

pub zeros-requires-in-1 : goal.zeros-requires-in-1
zeros-requires-in-1 c = search (few_laws, rules)

pub zeros-requires-in-2 : goal.zeros-requires-in-2
zeros-requires-in-2 c = search (few_laws, rules)

pub zeros-requires-in-3 : goal.zeros-requires-in-3
zeros-requires-in-3 c = search (few_laws, rules)

pub zeros-requires-in_default : goal.zeros-requires-in_default
zeros-requires-in_default c = search (few_laws, rules)

pub returns-in-0 : goal.returns-in-0
returns-in-0 c = search (few_laws, rules)

pub returns-in-1 : goal.returns-in-1
returns-in-1 c = search (few_laws, rules)

pub returns-in-2 : goal.returns-in-2
returns-in-2 c = search (few_laws, rules)

pub returns-in-3 : goal.returns-in-3
returns-in-3 c = search (few_laws, rules)

pub returns-in_default : goal.returns-in_default
returns-in_default c = search (few_laws, rules)
