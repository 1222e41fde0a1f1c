-- `kelompuris_csf_read` answers, and leaves in the tables, what `cal3d_skeleton::read_skeleton` does.
use Rattle.kelompuris_c_cal3d.proofs.kelompuris_csf_read.Goals as goal

pub returns : goal.returns
returns c = c.read_skeleton.ensures
