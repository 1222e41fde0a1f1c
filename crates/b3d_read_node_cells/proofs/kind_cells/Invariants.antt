-- `kind_cells` passes own chunks until one tells the kind. Its measure is what is left of the file.
use Prim.Native.Nat.{◌-◌}
use lib.ListN.{length}
use Rattle.b3d_spec_plain_rows.specs.Rows.{kind_of}
use Rattle.b3d_read_node_cells.proofs.OwnChunkLaws.{OwnLeft}
use Rattle.b3d_read_node_cells.proofs.kind_cells.Given as goal

abbrev pub invariant-loop-chunk : goal.invariant-loop-chunk
invariant-loop-chunk l = OwnLeft kind_of l.file l.initial.at l.at

abbrev pub decreases-loop-chunk : goal.decreases-loop-chunk
decreases-loop-chunk l = length l.file - l.at
