-- `seek` passes chunks until it finds one of the tag. Its measure is what is left.
use Prim.Native.Nat.{◌-◌}
use Rattle.b3d_chunk_walk.proofs.SeekLaws.{SeekLeft}
use Rattle.b3d_chunk_walk.proofs.seek.Given as goal

abbrev pub invariant-loop-t : goal.invariant-loop-t
invariant-loop-t l = SeekLeft l.file l.initial.c l.tag l.c

abbrev pub decreases-loop-t : goal.decreases-loop-t
decreases-loop-t l = l.c.end - l.c.at
