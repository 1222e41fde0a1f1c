-- `put_front` puts the groups above the lowest first.
use native.Mathlib.Omega.{arith}
use borrow.Author.Rules.{rules}
use Rattle.shared_seven_bit_groups.proofs.NumberLaws.{front_laws, front_slot}
use Rattle.shared_seven_bit_groups.proofs.+put_front.Goals as goal

pub returns-then-w-eq0 : goal.returns-then-w-eq0
returns-then-w-eq0 t c = search (front_laws, rules)

pub put_front-next-requires : goal.put_front-next-requires
put_front-next-requires t c = search (front_laws, rules)

pub bounds-out-next : goal.bounds-out-next
bounds-out-next t c = search (front_laws, rules)

pub overflow_add-result : goal.overflow_add-result
overflow_add-result t c = omega (arith, front_slot _ _ _ c.if-w-eq0.false c.requires _ _ c.put_front-next.ensures)

pub returns : goal.returns
returns t c = search (front_laws, rules)
