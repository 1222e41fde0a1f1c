-- `record_of` is the record of a chunk.
use Rattle.b3d_pieces_state.specs.Records.{record_of}
use Rattle.b3d_pieces_state.proofs.records.record_of.Goals as goal

pub returns : goal.returns
unfolding record_of
returns c = cc
