-- `put_grouped` puts or counts.
use Rattle.shared_put_or_count.proofs.PutLaws.{group_laws}
use borrow.Author.Rules.{rules}
use Rattle.shared_put_or_count.proofs.put_grouped.Goals as goal

pub put_groups-requires : goal.put_groups-requires
put_groups-requires c = search (group_laws, rules)

pub shape_of-out-then-wet : goal.shape_of-out-then-wet
shape_of-out-then-wet c = search (group_laws, rules)

pub returns-then-wet : goal.returns-then-wet
returns-then-wet c = search (group_laws, rules)

pub groups_of-requires : goal.groups_of-requires
groups_of-requires c = search (group_laws, rules)

pub overflow_add-result : goal.overflow_add-result
overflow_add-result c = search (group_laws, rules)

pub returns : goal.returns
returns c = search (group_laws, rules)
