-- `store_animation` goes once over the flat run. Its measure is what is left of the file.
use Prim.Native.Nat.{◌-◌}
use lib.ListN.{length}
use Rattle.b3d_chunk_walk.proofs.TableLaws.{TableLeft, Any}
use Rattle.b3d_read_animation.proofs.TableLaws.{lists, keys}
use Rattle.b3d_read_animation.proofs.KeyListLaws.{AnimationLeft}
use Rattle.b3d_read_animation.proofs.store_animation.Given as goal

abbrev pub invariant-loop-chunk : goal.invariant-loop-chunk
invariant-loop-chunk l = TableLeft 8 Any l.file l.initial.weights l.weights l.at l.to8 × TableLeft 9 (AnimationLeft l.at l.to9 l.nodes l.count) l.file l.initial.lists l.lists l.at l.to9 × TableLeft 10 Any l.file l.initial.keys l.keys l.at l.to10

abbrev pub decreases-loop-chunk : goal.decreases-loop-chunk
decreases-loop-chunk l = length l.file - l.at
