-- `kelompuris_b3d_label` answers what `b3d_label::label` does.
use Rattle.kelompuris_c.proofs.kelompuris_b3d_label.Goals as goal

pub returns : goal.returns
returns c = c.label.ensures
