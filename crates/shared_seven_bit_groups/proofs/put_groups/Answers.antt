-- `put_groups` puts the groups before the last, then the last.
use native.Mathlib.Omega.{arith}
use borrow.Author.Rules.{rules}
use Rattle.shared_seven_bit_groups.proofs.NumberLaws.{groups_laws, groups_slot}
use Rattle.shared_seven_bit_groups.proofs.put_groups.Goals as goal

pub put_front-next-requires : goal.put_front-next-requires
put_front-next-requires c = search (groups_laws, rules)

pub bounds-out-next : goal.bounds-out-next
bounds-out-next c = search (groups_laws, rules)

pub overflow_add-result : goal.overflow_add-result
overflow_add-result c = omega (arith, groups_slot _ _ _ c.requires _ _ c.put_front-next.ensures)

pub returns : goal.returns
returns c = search (groups_laws, rules)
