-- `groups_valid` looks at each row with its items. The loop has passed those before i.
use Rattle.b3d_check_row_runs.specs.Items.{run_width, run_test}
use Rattle.b3d_check_row_runs.proofs.GroupLaws.{RunsFrom}
use Rattle.b3d_check_row_runs.proofs.groups_valid.Given as goal

abbrev pub invariant-loop-i : goal.invariant-loop-i
invariant-loop-i l = RunsFrom (run_test l.run) (run_width l.run) l.from l.first l.count l.t l.total l.items l.i-end l.r l.i
