-- `put_rows` writes row by row. The loop has written the first i.
use Rattle.b3d_spec.specs.Rebuild.{cut}
use Rattle.b3d_write_row_runs.specs.Lent.{each_row}
use Rattle.b3d_write_materials.specs.Named.{row_bytes}
use Rattle.b3d_write_materials.proofs.NamedRowLaws.{NamedFrom}
use Rattle.b3d_write_materials.proofs.named.put_rows.Given as goal

abbrev pub invariant-loop-i : goal.invariant-loop-i
invariant-loop-i l = NamedFrom l.names l.t l.width l.m l.n (each_row (row_bytes l.names l.m) (cut l.width l.n l.t)) l.initial.out l.out l.at l.i
