-- `fill_keys` stores rows by the mask of a key, in runs. The loop has stored the first i.
use Rattle.b3d_read_key_rows.specs.Keys.{key_at}
use Rattle.b3d_read_row_runs.proofs.RunLaws.{RowsFrom}
use Rattle.b3d_read_key_rows.proofs.fill_keys.Given as goal

abbrev pub invariant-loop-i : goal.invariant-loop-i
invariant-loop-i l = RowsFrom (key_at l.position l.scale l.turn) 11 l.file l.words l.base l.initial.out l.count l.c.at l.out l.i
