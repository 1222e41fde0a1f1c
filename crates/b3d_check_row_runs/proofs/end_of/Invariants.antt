-- `end_of` adds up cell 3. The loop has counted the rows before i.
use Rattle.b3d_check_row_runs.proofs.EndLaws.{EndFrom}
use Rattle.b3d_check_row_runs.proofs.end_of.Given as goal

abbrev pub invariant-loop-i : goal.invariant-loop-i
invariant-loop-i l = EndFrom l.from l.first l.count l.t l.i-end l.r l.i
