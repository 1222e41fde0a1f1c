-- `kelompuris_b3d_judge` answers what `b3d_read_answer::judge_answer` does.
use Rattle.kelompuris_c.proofs.Laws.{mode_judge}
use Rattle.kelompuris_c.proofs.kelompuris_b3d_judge.Goals as goal

pub returns : goal.returns
returns c = search mode_judge
