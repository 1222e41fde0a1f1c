-- `kelompuris_b3d_mend` answers, and leaves in the outputs, what `b3d_mend::mend` does.
use Rattle.kelompuris_c_mend.proofs.kelompuris_b3d_mend.Goals as goal

pub returns : goal.returns
returns c = c.mend.ensures
