-- `kelompuris_csf_judge` answers what `cal3d_skeleton::judge` does.
use Rattle.kelompuris_c_cal3d.proofs.kelompuris_csf_judge.Goals as goal

pub returns : goal.returns
returns c = c.judge.ensures
