-- `textures_valid` looks at each row. The loop has passed those before i.
use Rattle.b3d_check_spec.specs.Check.{name_valid}
use Rattle.b3d_check_rows.proofs.LoopLaws.{AllFrom}
use Rattle.b3d_check_materials.proofs.textures_valid.Given as goal

abbrev pub invariant-loop-i : goal.invariant-loop-i
invariant-loop-i l = AllFrom (name_valid l.names) 9 0 l.count l.t l.count l.i
