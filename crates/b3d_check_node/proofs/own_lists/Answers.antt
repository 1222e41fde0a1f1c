-- `own_lists` answers for the key lists that are the node's.
use Rattle.b3d_check_node.proofs.NodeLaws.{lists_mine}
use borrow.Author.Rules.{rules}
use Rattle.b3d_check_node.proofs.own_lists.Goals as goal

pub lists_of-end-requires : goal.lists_of-end-requires
lists_of-end-requires c = search (lists_mine, rules)

pub overflow_sub-end : goal.overflow_sub-end
overflow_sub-end c = search (lists_mine, rules)

pub groups_valid-requires : goal.groups_valid-requires
groups_valid-requires c = search (lists_mine, rules)

pub returns : goal.returns
returns c = search (lists_mine, rules)
