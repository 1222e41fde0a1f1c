-- `next_chunk` answers the first known chunk. The loop has passed unknown ones only; its measure is what is left.
use Prim.Native.Nat.{◌-◌}
use Rattle.b3d_chunk_cursor.proofs.PassLaws.{Passed}
use Rattle.b3d_chunk_cursor.proofs.next_chunk.Given as goal

abbrev pub invariant-loop-tag : goal.invariant-loop-tag
invariant-loop-tag l = Passed l.s l.initial.c l.c

abbrev pub decreases-loop-tag : goal.decreases-loop-tag
decreases-loop-tag l = l.c.end - l.c.at
