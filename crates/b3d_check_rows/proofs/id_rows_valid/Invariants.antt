-- `id_rows_valid` looks at each row. The loop has passed those before i.
use Rattle.b3d_check_spec.specs.Check.{keeps}
use Rattle.b3d_check_rows.specs.IdRows.{id_width, id_row}
use Rattle.b3d_check_rows.proofs.LoopLaws.{AllFrom}
use Rattle.b3d_check_rows.proofs.id_rows_valid.Given as goal

abbrev pub invariant-loop-i : goal.invariant-loop-i
invariant-loop-i l = AllFrom (keeps (id_row l.ids l.v)) (id_width l.ids) l.first l.count l.t l.i-end l.i
