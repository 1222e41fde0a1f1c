-- `rows_coloured` looks at each row. The loop has passed those before i.
use Rattle.b3d_spec.specs.Colours.{coloured}
use Rattle.b3d_check_rows.proofs.LoopLaws.{AllFrom}
use Rattle.b3d_check_colours.proofs.rows_coloured.Given as goal

abbrev pub invariant-loop-i : goal.invariant-loop-i
invariant-loop-i l = AllFrom (coloured l.word) l.width 0 l.count l.t l.count l.i
