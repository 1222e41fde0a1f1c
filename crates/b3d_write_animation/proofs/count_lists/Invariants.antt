-- `count_lists` passes the key lists of a node. Those before i are its own.
use Prim.Native.Nat.{◌-◌, ◌/◌}
use lib.ListN.{length}
use Rattle.b3d_write_animation.proofs.MoveLaws.{Counting}
use Rattle.b3d_write_animation.proofs.count_lists.Given as goal

abbrev pub invariant-loop-i : goal.invariant-loop-i
invariant-loop-i l = Counting l.lists l.first l.node l.i
