-- `copy_each` goes from chunk to chunk. Its measure is what is left.
use Prim.Native.Nat.{◌-◌}
use Rattle.b3d_clear_spec.specs.Copies.{as_is}
use Rattle.b3d_clear_copied_chunks.proofs.EachChunkLaws.{EachLeft}
use Rattle.b3d_clear_copied_chunks.proofs.copy_each.Given as goal

abbrev pub invariant-loop-body : goal.invariant-loop-body
invariant-loop-body l = EachLeft l.file l.tag (as_is l.tag) l.initial.c l.initial.out l.out l.c l.n

abbrev pub decreases-loop-body : goal.decreases-loop-body
decreases-loop-body l = l.c.end - l.c.at
