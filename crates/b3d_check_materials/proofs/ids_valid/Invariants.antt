-- `ids_valid` looks at each cell. The loop has passed those before i.
use Rattle.layout.specs.Rules.{holds}
use Rattle.b3d_spec.specs.Rules.{texture_id}
use Rattle.b3d_check_rows.specs.Cells.{of_cell}
use Rattle.b3d_check_rows.proofs.LoopLaws.{AllFrom}
use Rattle.b3d_check_materials.proofs.ids_valid.Given as goal

abbrev pub invariant-loop-i : goal.invariant-loop-i
invariant-loop-i l = AllFrom (of_cell (holds (texture_id l.textures))) 1 l.place l.count l.t l.i-end l.i
