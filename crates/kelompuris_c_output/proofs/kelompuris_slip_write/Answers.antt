-- `kelompuris_slip_write` answers, and leaves in the output, what `slip::write_slip` does.
use Rattle.kelompuris_c_output.proofs.kelompuris_slip_write.Goals as goal

pub returns : goal.returns
returns c = c.write_slip.ensures
