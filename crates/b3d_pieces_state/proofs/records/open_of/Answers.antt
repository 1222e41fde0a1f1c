-- `open_of` is the chunk that a record says.
use Rattle.b3d_pieces_state.specs.Records.{open_in}
use Rattle.b3d_pieces_state.proofs.records.open_of.Goals as goal

pub returns : goal.returns
unfolding open_in
returns c = cc
