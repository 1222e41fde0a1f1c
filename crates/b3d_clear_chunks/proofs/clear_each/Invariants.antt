-- `clear_each` goes from chunk to chunk. Its measure is what is left.
use Prim.Native.Nat.{◌-◌}
use Rattle.b3d_clear_spec.specs.Copies.{part_copy}
use Rattle.b3d_clear_copied_chunks.proofs.EachChunkLaws.{EachLeft}
use Rattle.b3d_clear_chunks.proofs.clear_each.Given as goal

abbrev pub invariant-loop-at : goal.invariant-loop-at
invariant-loop-at l = EachLeft l.file l.tag (part_copy l.tag) l.initial.c l.initial.out l.out l.c l.n

abbrev pub decreases-loop-at : goal.decreases-loop-at
decreases-loop-at l = l.c.end - l.c.at
