-- `kelompuris_slip_read` answers what `slip::read_slip` does.
use Rattle.kelompuris_c.proofs.kelompuris_slip_read.Goals as goal

pub returns : goal.returns
returns c = c.read_slip.ensures
