-- `put_table` puts the entries of some rows a turn: those from r on are left.
use Prim.Native.Nat.{◌-◌}
use Rattle.b3d_compare_tables.proofs.RowStepLaws.{PutLeft}
use Rattle.b3d_compare_tables.proofs.put_table.Given as goal

abbrev pub invariant-loop-r : goal.invariant-loop-r
invariant-loop-r l = PutLeft l.k l.rows l.a l.b l.initial.p l.initial.q l.p l.q l.x l.y l.wet l.initial.out l.at l.out l.next l.r

abbrev pub decreases-loop-r : goal.decreases-loop-r
decreases-loop-r l = l.rows - l.r
