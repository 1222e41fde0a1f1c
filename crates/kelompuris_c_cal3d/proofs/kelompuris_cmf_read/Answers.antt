-- `kelompuris_cmf_read` answers, and leaves in the tables, what `cal3d_mesh::read_mesh` does.
use Rattle.kelompuris_c_cal3d.proofs.kelompuris_cmf_read.Goals as goal

pub returns : goal.returns
returns c = c.read_mesh.ensures
