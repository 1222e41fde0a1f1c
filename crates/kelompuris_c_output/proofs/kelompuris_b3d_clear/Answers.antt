-- `kelompuris_b3d_clear` answers, and leaves in the output, what `b3d_clear::clear` does.
use Rattle.kelompuris_c_output.proofs.kelompuris_b3d_clear.Goals as goal

pub returns : goal.returns
returns c = c.clear.ensures
