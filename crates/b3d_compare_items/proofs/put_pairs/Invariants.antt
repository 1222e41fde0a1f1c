-- `put_pairs` puts the entries of one pair a turn: the items from p and q on are left.
use Prim.Native.Nat.{◌-◌}
use Rattle.b3d_compare_items.proofs.PairLaws.{PairsLeft}
use Rattle.b3d_compare_items.proofs.put_pairs.Given as goal

abbrev pub invariant-loop-p : goal.invariant-loop-p
invariant-loop-p l = PairsLeft l.k l.r l.a l.b l.i l.j l.cols l.wet l.initial.out l.at l.out l.step l.p l.q l.row l.next

abbrev pub decreases-loop-p : goal.decreases-loop-p
decreases-loop-p l = l.i.rest.end - l.p
