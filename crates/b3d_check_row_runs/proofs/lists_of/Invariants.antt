-- `lists_of` stops at the first row that names another node. The loop has passed those before i.
use Rattle.b3d_check_row_runs.proofs.MineLaws.{MineFrom}
use Rattle.b3d_check_row_runs.proofs.lists_of.Given as goal

abbrev pub invariant-loop-i : goal.invariant-loop-i
invariant-loop-i l = MineFrom l.node l.first l.total l.t l.i
