-- `find_chunk` passes chunks until it meets one of the tag. Its measure is what is left.
use Prim.Native.Nat.{◌-◌}
use lib.ListN.{length}
use Rattle.b3d_rows_positions.proofs.FindChunkLaws.{FindChunkLeft}
use Rattle.b3d_rows_positions.proofs.find_chunk.Given as goal

abbrev pub invariant-loop-chunk : goal.invariant-loop-chunk
invariant-loop-chunk l = FindChunkLeft l.file l.from l.tag l.before l.at l.nodes

abbrev pub decreases-loop-chunk : goal.decreases-loop-chunk
decreases-loop-chunk l = length l.file - l.at
