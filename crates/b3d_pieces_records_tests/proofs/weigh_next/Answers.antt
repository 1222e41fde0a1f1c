-- `weigh_next` does what its promise says.
use borrow.Author.Rules.{rules}
use Rattle.b3d_pieces_records_tests.proofs.WeightLaws.{weigh_laws}
use Rattle.b3d_pieces_records_tests.proofs.weigh_next.Goals as goal

pub overflow_add-sum : goal.overflow_add-sum
overflow_add-sum c = search (weigh_laws, rules)

pub returns-then-sum-gt-MOST_COUNTED : goal.returns-then-sum-gt-MOST_COUNTED
returns-then-sum-gt-MOST_COUNTED c = search (weigh_laws, rules)

pub overflow_add-result : goal.overflow_add-result
overflow_add-result c = search (weigh_laws, rules)

pub overflow_add-result-2 : goal.overflow_add-result-2
overflow_add-result-2 c = search (weigh_laws, rules)

pub returns : goal.returns
returns c = search (weigh_laws, rules)
