-- `pass_name` answers where `sized` ends.
use borrow.Author.Rules.{rules}
use Rattle.shared_counted_lists.proofs.NameLaws.{names}
use Rattle.shared_counted_lists.proofs.pass_name.Goals as goal

pub returns-then-stored-gt2147483647 : goal.returns-then-stored-gt2147483647
returns-then-stored-gt2147483647 c = search (names, rules)

pub overflow_sub-end : goal.overflow_sub-end
overflow_sub-end c = search (names, rules)

pub returns-then-end-at : goal.returns-then-end-at
returns-then-end-at c = search (names, rules)

pub overflow_add-result : goal.overflow_add-result
overflow_add-result c = search (names, rules)

pub returns-in_default : goal.returns-in_default
returns-in_default c = search (names, rules)

pub returns : goal.returns
returns c = search (names, rules)
