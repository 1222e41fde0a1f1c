-- `put_key_rows` writes rows by the runs of a key. The loop has written the first i.
use Prim.Native.Nat.{◌*◌}
use Rattle.b3d_write_row_runs.proofs.PresentWordLaws.{From}
use Rattle.b3d_write_keys.proofs.put_key_rows.Given as goal

abbrev pub invariant-loop-i : goal.invariant-loop-i
invariant-loop-i l = From l.g 11 l.keys (11 * l.first) l.count l.initial.out l.out l.at l.i
