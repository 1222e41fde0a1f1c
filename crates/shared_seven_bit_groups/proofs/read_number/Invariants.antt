-- `read_number` reads a group a turn: those from p on are left.
use Rattle.shared_seven_bit_groups.proofs.NumberLaws.{GroupsLeft}
use Rattle.shared_seven_bit_groups.proofs.read_number.Given as goal

abbrev pub invariant-loop : goal.invariant-loop
invariant-loop l = GroupsLeft l.s l.at l.most l.counter l.v l.p
