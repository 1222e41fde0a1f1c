-- `brushes_valid` looks at each row. The loop has passed those before i.
use Rattle.b3d_check_spec.specs.Check.{brush_valid}
use Rattle.b3d_check_rows.proofs.LoopLaws.{AllFrom}
use Rattle.b3d_check_materials.proofs.brushes_valid.Given as goal

abbrev pub invariant-loop-i : goal.invariant-loop-i
invariant-loop-i l = AllFrom (brush_valid l.names l.slots l.textures) 17 0 l.count l.t l.count l.i
