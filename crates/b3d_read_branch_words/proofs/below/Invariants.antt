-- `below` passes nodes until one begins at the end or behind it. Its measure is how many are left.
use Prim.Native.Nat.{◌-◌}
use Rattle.b3d_read_branch_words.proofs.BranchLaws.{BelowLeft}
use Rattle.b3d_read_branch_words.proofs.below.Given as goal

abbrev pub invariant-loop-j : goal.invariant-loop-j
invariant-loop-j l = BelowLeft l.file l.rows l.nodes l.i l.end l.j

abbrev pub decreases-loop-j : goal.decreases-loop-j
decreases-loop-j l = l.nodes - l.j
