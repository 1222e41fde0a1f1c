-- `judge_of` is what its promise says.
use Rattle.b3d_pieces_state.specs.States.{judge_in}
use Rattle.b3d_pieces_state.proofs.states.judge_of.Goals as goal

pub returns : goal.returns
unfolding judge_in
returns c = cc
