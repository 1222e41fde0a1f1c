-- `read_number` reads a group a turn: those from p on are left.
use native.Mathlib.Omega.{arith}
use borrow.Author.Rules.{rules}
use Rattle.shared_seven_bit_groups.proofs.NumberLaws.{reading_laws}
use Rattle.shared_seven_bit_groups.proofs.read_number.Goals as goal

pub loop-init : goal.loop-init
loop-init c = search (reading_laws, rules)

pub returns-then-s-p : goal.returns-then-s-p
returns-then-s-p c = search (reading_laws, rules)

pub overflow_cast-b : goal.overflow_cast-b
overflow_cast-b c = omega (arith, c.type_inv.s c.loop.p)

pub returns-then-most-n : goal.returns-then-most-n
returns-then-most-n c = search (reading_laws, rules)

pub returns-then-b-lt128 : goal.returns-then-b-lt128
returns-then-b-lt128 c = search (reading_laws, rules)

pub overflow_add-v : goal.overflow_add-v
overflow_add-v c = omega (arith, c.type_inv.s c.loop.p)

pub returns-then-v-eq0 : goal.returns-then-v-eq0
returns-then-v-eq0 c = search (reading_laws, rules)

pub loop-preserved : goal.loop-preserved
loop-preserved c = search (reading_laws, rules)

pub returns : goal.returns
returns c = search (reading_laws, rules)
