-- `kelompuris_cmf_judge` answers what `cal3d_mesh_judge::judge` does.
use Rattle.kelompuris_c_cal3d.proofs.kelompuris_cmf_judge.Goals as goal

pub returns : goal.returns
returns c = c.judge.ensures
