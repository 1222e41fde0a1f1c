-- `list_into` counts the list, and puts it where there is room.
use borrow.Author.Rules.{rules}
use Rattle.b3d_compare.proofs.CompareLaws.{into_laws}
use Rattle.b3d_compare.proofs.list_into.Goals as goal

pub put_list-size-requires : goal.put_list-size-requires
put_list-size-requires c = (search rules, search rules, search (into_laws, rules))

pub returns-then-size-eq0 : goal.returns-then-size-eq0
returns-then-size-eq0 c = search (into_laws, rules)

pub overflow_cast-result : goal.overflow_cast-result
overflow_cast-result c = search (into_laws, rules)

pub returns-then-out-size : goal.returns-then-out-size
returns-then-out-size c = search (into_laws, rules)

pub put_list-requires : goal.put_list-requires
put_list-requires c = (search rules, search rules, search (into_laws, rules))

pub overflow_cast-result-2 : goal.overflow_cast-result-2
overflow_cast-result-2 c = search (into_laws, rules)

pub returns : goal.returns
returns c = search (into_laws, rules)
