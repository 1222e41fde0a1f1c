-- `kelompuris_b3d_slip` answers, and leaves in the output, what `slip_of_b3d::slip_of` does.
use Rattle.kelompuris_c_output.proofs.kelompuris_b3d_slip.Goals as goal

pub returns : goal.returns
returns c = c.slip_of.ensures
