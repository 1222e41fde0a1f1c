-- `put_ids` puts or counts ids. The loop has put those before the i-th.
use Rattle.b3d_mend_write_brushes.proofs.IdPutLaws.{Ids}
use Rattle.b3d_mend_write_brushes.proofs.put_ids.Given as goal

abbrev pub invariant-loop-i : goal.invariant-loop-i
invariant-loop-i l = Ids l.file l.from l.n l.limit l.report l.wet l.initial.out l.start l.out l.i l.at
