-- `put_runs` writes a chunk for each row. The loop has written those before i.
use lib.ListN.{take, drop}
use Rattle.b3d_write_row_runs.specs.Lent.{rows_in}
use Rattle.b3d_write_item_lists.specs.Runs.{run_width, run_bytes, runs_bytes}
use Rattle.b3d_write_item_lists.proofs.GroupByGroupLaws.{RunsLeft}
use Rattle.b3d_write_item_lists.proofs.put_runs.Given as goal

abbrev pub invariant-loop-i : goal.invariant-loop-i
invariant-loop-i l = RunsLeft (run_bytes l.keys) (run_width l.keys) l.rows l.first l.count l.items (runs_bytes l.keys (take l.count (drop l.first (rows_in 4 l.rows))) (drop l.start (rows_in (run_width l.keys) l.items))) l.initial.out l.out l.at l.next l.i
