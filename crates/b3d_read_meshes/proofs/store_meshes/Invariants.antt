-- `store_meshes` goes once over the flat run. Its measure is what is left of the file.
use Prim.Native.Nat.{◌-◌}
use lib.ListN.{length}
use Rattle.b3d_read_meshes.proofs.MeshLaws.{MeshesLeft}
use Rattle.b3d_read_meshes.proofs.store_meshes.Given as goal

abbrev pub invariant-loop-chunk : goal.invariant-loop-chunk
invariant-loop-chunk l = MeshesLeft l.file l.initial.t4 l.initial.t5 l.initial.t6 l.initial.t7 l.t4 l.t5 l.t6 l.t7 l.at l.m

abbrev pub decreases-loop-chunk : goal.decreases-loop-chunk
decreases-loop-chunk l = length l.file - l.at
