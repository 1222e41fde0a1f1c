-- `kelompuris_b3d_compare` answers, and leaves in the output, what `b3d_compare::compare` does.
use Rattle.kelompuris_c_compare.proofs.kelompuris_b3d_compare.Goals as goal

pub returns : goal.returns
returns c = c.compare.ensures
