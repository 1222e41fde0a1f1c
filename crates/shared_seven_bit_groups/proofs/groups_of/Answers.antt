-- `groups_of` counts one group a turn: the number above falls.
use borrow.Author.Rules.{rules}
use Rattle.shared_seven_bit_groups.proofs.NumberLaws.{counting_laws}
use Rattle.shared_seven_bit_groups.proofs.groups_of.Goals as goal

pub loop-above-init : goal.loop-above-init
loop-above-init c = search (counting_laws, rules)

pub overflow_add-count : goal.overflow_add-count
overflow_add-count c = search (counting_laws, rules)

pub loop-above-preserved : goal.loop-above-preserved
loop-above-preserved c = search (counting_laws, rules)

pub returns : goal.returns
returns c = search (counting_laws, rules)
