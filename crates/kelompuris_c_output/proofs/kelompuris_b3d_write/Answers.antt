-- `kelompuris_b3d_write` answers, and leaves in the output, what `b3d_write::write` does.
use Rattle.kelompuris_c_output.proofs.Laws.{mode_writes}
use Rattle.kelompuris_c_output.proofs.kelompuris_b3d_write.Goals as goal

pub returns : goal.returns
returns c = mode_writes _ _ c.mode_of-m.ensures _ _ _ _ _ c.write.ensures
